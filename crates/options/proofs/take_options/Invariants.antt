-- Each option begins before the last word and moves `next`, and never past the last word.
use Rattle.std.proofs.Common.{◌-◌, ◌≤◌, max}
use Rattle.options.proofs.take_options.Given as goal

abbrev pub invariant-loop-more : goal.invariant-loop-more
invariant-loop-more l = l.o.next ≤ max 1 l.words

abbrev pub decreases-loop-more : goal.decreases-loop-more
decreases-loop-more l = l.words - l.o.next
