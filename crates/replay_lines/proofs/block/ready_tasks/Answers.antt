use mathlib.Core.Logic.{⊎_elim}
use Prim.Native.Nat.{◌-◌}
use native.Mathlib.Omega.{arith}
use Rattle.replay_lines.specs.Laws.BlockCode.{Picked}
use Rattle.replay_lines.proofs.Laws.BlockCode.{picked_none, picked_one, picked_not, picked_all}
use Rattle.replay_lines.proofs.block.ready_tasks.Goals as goal
use Rattle.replay_lines.proofs.block.ready_tasks.Goals.{then-w-eq1, else-w-eq1}

pub loop-t-init : goal.loop-t-init
loop-t-init c = picked_none c.args.word c.args.tasks.now c.requires

pub returns : goal.returns
returns c = let l = c.loop-t in
    (omega arith, picked_all _ _ _ _ l.t c.loop-t-test.false l.invariant)

pub loop-t-preserved : goal.loop-t-preserved
loop-t-preserved c = let l = c.loop-t in elim c.if-w-eq1.branch [
  | then-w-eq1 w ↦ rw (w.tasks-is, w.n-is) (picked_one _ l.w l.tasks l.n l.t c.loop-t-test.true l.invariant w.if-w-eq1.true)
  | else-w-eq1 w ↦ rw (w.tasks-is, w.n-is) (picked_not _ l.w l.tasks l.n l.t c.loop-t-test.true l.invariant w.if-w-eq1.false)
]
