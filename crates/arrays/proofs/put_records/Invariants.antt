use mathlib.Core.Path.{◌≡◌}
use native.Mathlib.Omega.{arith}
use Rattle.codec.specs.Store.{store}
use Rattle.codec.specs.Limit.{max_cells}
use Rattle.tracker.specs.State.{holder_of}
use Rattle.arrays.specs.Halves.{case_of, locality_at, shares_of}
use Rattle.arrays.specs.Laws.HalvesCode.{two, two_none, two_more, one_none}
use Rattle.arrays.specs.Laws.Stores.{store-more}
use Prim.Native.Nat.{◌≤◌, ◌-◌}
use Rattle.arrays.proofs.put_records.Given as goal

abbrev pub invariant-loop-i : goal.invariant-loop-i
invariant-loop-i l = (l.i ≤ max_cells) × (l.halves ≡ two l.initial.halves 37 2085 (λ k. case_of (locality_at l.records k)) (λ k. holder_of (locality_at l.records k)) l.i) × (l.words ≡ store l.initial.words 17 (shares_of l.records l.i))

abbrev pub decreases-loop-i : goal.decreases-loop-i
decreases-loop-i l = max_cells - l.i
