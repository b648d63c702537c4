use mathlib.Core.Path.{◌≡◌, refl}
use Prim.Native.Nat.{◌≤◌, ◌-◌}
use native.Mathlib.Omega.{arith}
use lib.ListN.{length, take}
use lib.Seq.{take-length}
use Rattle.text.specs.Appended.{Appended}
use Rattle.text.specs.Laws.Appended.{joined, nothing}
use Rattle.replay_lines.specs.Lines.{spaced, memory_of}
use Rattle.replay_lines.proofs.Laws.Lines.{spaced-on, spaced_room, memory-length}
use Rattle.replay_lines.proofs.put_values.Given as goal

abbrev pub invariant-loop-i : goal.invariant-loop-i
invariant-loop-i l = (l.i ≤ length l.memory) × (length l.out ≡ length l.initial.out) × Appended (spaced (take l.i l.memory)) l.initial.out l.initial.end l.out l.end

abbrev pub decreases-loop-i : goal.decreases-loop-i
decreases-loop-i l = length l.memory - l.i
