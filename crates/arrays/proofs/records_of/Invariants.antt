use mathlib.Core.Path.{refl}
use Prim.Native.Nat.{◌-◌}
use native.Mathlib.Omega.{arith}
use Rattle.codec.specs.Limit.{max_cells}
use Rattle.pending.specs.Laws.Each.{Filled}
use Rattle.pending.proofs.Laws.Each.{filled_none, filled_more, filled-all}
use Rattle.arrays.specs.Halves.{record_in}
use Rattle.arrays.proofs.records_of.Given as goal

abbrev pub invariant-loop-i : goal.invariant-loop-i
invariant-loop-i l = Filled (record_in l.halves l.words) max_cells l.records l.i

abbrev pub decreases-loop-i : goal.decreases-loop-i
decreases-loop-i l = max_cells - l.i
