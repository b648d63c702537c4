use mathlib.Core.Path.{◌≡◌}
use native.Mathlib.Omega.{arith}
use lib.ListN.{get_or}
use Rattle.codec.specs.Store.{store}
use Rattle.codec.specs.Limit.{max_tasks}
use Rattle.arrays.specs.Halves.{first_of}
use Rattle.arrays.specs.Laws.HalvesCode.{two, two_none, two_more, one_none}
use Rattle.arrays.specs.Laws.Stores.{store-more}
use Prim.Native.Nat.{◌≤◌, ◌-◌}
use Rattle.arrays.proofs.put_tasks.Given as goal

abbrev pub invariant-loop-t : goal.invariant-loop-t
invariant-loop-t l = (l.t ≤ max_tasks) × (l.halves ≡ two l.initial.halves 5 21 (λ k. get_or l.done k 0) (λ k. get_or l.took k 0) l.t) × (l.words ≡ store l.initial.words 1 (first_of l.seen l.t))

abbrev pub decreases-loop-t : goal.decreases-loop-t
decreases-loop-t l = max_tasks - l.t
