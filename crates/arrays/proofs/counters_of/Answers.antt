use native.Mathlib.Omega.{arith}
use mathlib.Core.Path.{refl}
use Prim.Native.Nat.{◌+◌, ◌-◌}
use lib.ListN.{get_or}
use Rattle.codec.specs.Limit.{max_tasks}
use Rattle.pending.specs.Laws.Each.{Filled}
use Rattle.pending.proofs.Laws.Each.{filled_none, filled_more, filled-all}
use Rattle.arrays.proofs.counters_of.Goals as goal

pub loop-t-init : goal.loop-t-init
loop-t-init c = (filled_none _ _ _ refl, filled_none _ _ _ refl, filled_none _ _ _ refl)

pub loop-t-preserved : goal.loop-t-preserved
loop-t-preserved c = let l = c.loop-t in
    (filled_more _ max_tasks l.done l.t (omega arith) l.invariant.0, filled_more _ max_tasks l.seen l.t (omega arith) l.invariant.1, filled_more _ max_tasks l.took l.t (omega arith) l.invariant.2)

pub returns : goal.returns
returns c = let l = c.loop-t in
    let h = c.loop-t-test.false in
    rw (filled-all _ max_tasks _ _ h l.invariant.0, filled-all _ max_tasks _ _ h l.invariant.1, filled-all _ max_tasks _ _ h l.invariant.2)
