use mathlib.Core.Path.{refl}
use Prim.Native.Nat.{◌-◌}
use native.Mathlib.Omega.{arith}
use Rattle.codec.specs.Limit.{max_cells}
use Rattle.pending.specs.Laws.Each.{Filled}
use Rattle.pending.proofs.Laws.Each.{filled_none, filled_more, filled-all}
use Rattle.arrays.specs.Halves.{record_in}
use Rattle.arrays.proofs.records_of.Goals as goal

pub loop-i-init : goal.loop-i-init
loop-i-init c = filled_none _ _ _ refl

pub loop-i-preserved : goal.loop-i-preserved
loop-i-preserved c = let a = c.args in
    let l = c.loop-i in
    rw c.record_of-record.ensures (filled_more (record_in a.halves.now a.words.now) max_cells l.records l.i (omega arith) l.invariant)

pub returns : goal.returns
returns c = filled-all _ max_cells _ _ c.loop-i-test.false c.loop-i.invariant
