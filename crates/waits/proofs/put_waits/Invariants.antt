use mathlib.Core.Path.{◌≡◌}
use Prim.Native.Nat.{◌≤◌, ◌-◌}
use lib.ListN.{length}
use Rattle.text.specs.Appended.{Appended}
use Rattle.waits.specs.Waits.{waits_in}
use Rattle.waits.proofs.put_waits.Given as goal

abbrev pub invariant-loop-t : goal.invariant-loop-t
invariant-loop-t l = (l.t ≤ l.run.tasks) × (length l.out ≡ length l.initial.out) × Appended (waits_in l.bytes l.run l.t) l.initial.out 0 l.out l.at

abbrev pub decreases-loop-t : goal.decreases-loop-t
decreases-loop-t l = l.run.tasks - l.t
