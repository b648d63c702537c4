use mathlib.Core.Logic.{⊎_elim}
use Prim.Native.Nat.{◌-◌}
use native.Mathlib.Omega.{arith}
use Rattle.replay_lines.specs.Laws.BlockCode.{Picked}
use Rattle.replay_lines.proofs.Laws.BlockCode.{picked_none, picked_one, picked_not, picked_all}
use Rattle.replay_lines.proofs.block.ready_tasks.Given as goal

abbrev pub invariant-loop-t : goal.invariant-loop-t
invariant-loop-t l = Picked l.word l.w l.tasks l.n l.t

abbrev pub decreases-loop-t : goal.decreases-loop-t
decreases-loop-t l = 16 - l.t
