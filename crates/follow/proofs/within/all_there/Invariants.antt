use mathlib.Core.Path.{◌≡◌}
use Prim.Native.Nat.{◌≤◌, ◌-◌}
use lib.ListN.{length}
use Rattle.pending.specs.All.{all_from}
use Rattle.follow.specs.Within.{is_there}
use Rattle.follow.proofs.within.all_there.Given as goal

abbrev pub invariant-loop-t : goal.invariant-loop-t
invariant-loop-t l = (l.t ≤ length l.counts) × (all_from (is_there l.counts l.run) l.t (length l.counts - l.t) ≡ all_from (is_there l.counts l.run) 0 (length l.counts))

abbrev pub decreases-loop-t : goal.decreases-loop-t
decreases-loop-t l = length l.counts - l.t
