use mathlib.Core.Path.{refl}
use Rattle.pending.proofs.Laws.Each.{filled_none, filled_more, filled-all}
use Rattle.scheduler.proofs.columns.run_of.Goals as goal

pub loop-t-init : goal.loop-t-init
loop-t-init c = filled_none _ _ _ refl

pub loop-t-preserved : goal.loop-t-preserved
loop-t-preserved c = let l = c.loop-t in filled_more _ _ _ l.t c.loop-t-test.true l.invariant

pub returns : goal.returns
returns c = rw (filled-all _ _ _ c.loop-t.t c.loop-t-test.false c.loop-t.invariant)
