use Rattle.std.proofs.Common.{◌≤◌, length}
use Rattle.options.proofs.put_counts.Given as goal

abbrev pub invariant-loop-at : goal.invariant-loop-at
invariant-loop-at l = l.n ≤ length l.counts
