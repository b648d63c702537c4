use mathlib.Core.Path.{◌≡◌}
use Prim.Native.Nat.{◌≤◌, ◌-◌}
use lib.ListN.{length, take}
use Rattle.follow.specs.Within.{held_to}
use Rattle.follow.proofs.within.within.Given as goal

abbrev pub invariant-loop-t : goal.invariant-loop-t
invariant-loop-t l = (l.t ≤ length l.counts) × (l.runs ≡ held_to (take l.t l.counts) l.run.runs)

abbrev pub decreases-loop-t : goal.decreases-loop-t
decreases-loop-t l = length l.counts - l.t
