use Rattle.pending.specs.Look.{group_at, Opens}
use Prim.Native.Nat.{◌-◌}
use mathlib.Core.Bool.{Bool}
use Rattle.pending.proofs.next.open_at.Given as goal

-- what is told of the rest is told of the whole group
abbrev pub invariant-loop-place : goal.invariant-loop-place
invariant-loop-place l =
    (r : Bool) → Opens l.dones l.place (group_at l.limits l.bytes l.place l.end) r → Opens l.dones l.from (group_at l.limits l.bytes l.from l.end) r

abbrev pub decreases-loop-place : goal.decreases-loop-place
decreases-loop-place l = l.end - l.place
