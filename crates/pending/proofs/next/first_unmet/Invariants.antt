use Prim.Native.Nat.{ℕ, ◌-◌}
use Rattle.entries.specs.declared.Limits.{Limits}
use Rattle.pending.specs.FirstUnmet.{Ahead}
use Rattle.pending.proofs.next.first_unmet.Given as goal

abbrev pub invariant-loop-place : goal.invariant-loop-place
invariant-loop-place l = (m : Limits) (start end : ℕ) → Ahead m l.bytes l.dones start end l.from l.at → Ahead m l.bytes l.dones start end l.place l.at

abbrev pub decreases-loop-place : goal.decreases-loop-place
decreases-loop-place l = l.at - l.place
