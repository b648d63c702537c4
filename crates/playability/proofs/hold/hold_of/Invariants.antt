use mathlib.Core.Path.{◌≡◌}
use Prim.Native.Nat.{◌-◌, ◌≤◌}
use Rattle.playability.specs.Hold.{hold_from, hold_of}
use Rattle.playability.proofs.hold.hold_of.Given as goal

abbrev pub invariant-loop-t : goal.invariant-loop-t
invariant-loop-t l = (l.t ≤ l.run.tasks) × (hold_from l.bytes l.run l.t (l.run.tasks - l.t) ≡ hold_of l.bytes l.run)

abbrev pub decreases-loop-t : goal.decreases-loop-t
decreases-loop-t l = l.run.tasks - l.t
