use mathlib.Core.Path.{◌≡◌}
use Prim.Native.Nat.{◌≤◌}
use lib.ListN.{length, take}
use Rattle.text.specs.Appended.{Appended}
use Rattle.verdict.specs.Text.{steps_of}
use Rattle.verdict.proofs.put_steps.Given as goal

abbrev pub invariant-loop-task : goal.invariant-loop-task
invariant-loop-task l = (l.task-index ≤ length l.order) × (length l.out ≡ length l.initial.out) × Appended (steps_of (take l.task-index l.order)) l.initial.out l.at l.out l.end
