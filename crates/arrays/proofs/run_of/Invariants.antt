use Rattle.arrays.specs.Places.{task_in}
use Rattle.pending.specs.Laws.Each.{Filled}
use Rattle.pending.proofs.Laws.Each.{filled_none, filled_more, filled-all}
use Rattle.codec.specs.Limit.{max_tasks}
use native.Mathlib.Omega.{arith}
use Prim.Native.Nat.{◌-◌}
use mathlib.Core.Path.{refl}
use Rattle.arrays.proofs.run_of.Given as goal

abbrev pub invariant-loop-t : goal.invariant-loop-t
invariant-loop-t l = Filled (task_in l.places) max_tasks l.runs l.t

abbrev pub decreases-loop-t : goal.decreases-loop-t
decreases-loop-t l = max_tasks - l.t
