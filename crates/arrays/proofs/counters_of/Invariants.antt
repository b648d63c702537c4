use native.Mathlib.Omega.{arith}
use mathlib.Core.Path.{refl}
use Prim.Native.Nat.{◌+◌, ◌-◌}
use lib.ListN.{get_or}
use Rattle.codec.specs.Limit.{max_tasks}
use Rattle.pending.specs.Laws.Each.{Filled}
use Rattle.pending.proofs.Laws.Each.{filled_none, filled_more, filled-all}
use Rattle.arrays.proofs.counters_of.Given as goal

abbrev pub invariant-loop-t : goal.invariant-loop-t
invariant-loop-t l = Filled (λ k. get_or l.halves (5 + k) 0) max_tasks l.done l.t × Filled (λ k. get_or l.words (1 + k) 0) max_tasks l.seen l.t × Filled (λ k. get_or l.halves (21 + k) 0) max_tasks l.took l.t

abbrev pub decreases-loop-t : goal.decreases-loop-t
decreases-loop-t l = max_tasks - l.t
