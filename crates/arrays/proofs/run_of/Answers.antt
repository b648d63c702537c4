use Rattle.arrays.specs.Places.{task_in}
use Rattle.pending.specs.Laws.Each.{Filled}
use Rattle.pending.proofs.Laws.Each.{filled_none, filled_more, filled-all}
use Rattle.codec.specs.Limit.{max_tasks}
use native.Mathlib.Omega.{arith}
use Prim.Native.Nat.{◌-◌}
use mathlib.Core.Path.{refl}
use Rattle.arrays.proofs.run_of.Goals as goal

pub loop-t-init : goal.loop-t-init
loop-t-init c = filled_none _ _ _ refl

pub loop-t-preserved : goal.loop-t-preserved
loop-t-preserved c = let l = c.loop-t in filled_more (task_in c.args.places.now) max_tasks l.runs l.t (omega arith) l.invariant

pub returns : goal.returns
returns c = rw (filled-all _ max_tasks _ _ c.loop-t-test.false c.loop-t.invariant)
