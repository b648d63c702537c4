use mathlib.Core.Path.{◌≡◌}
use native.Mathlib.Omega.{arith}
use Rattle.codec.specs.Store.{store}
use Rattle.codec.specs.Limit.{max_cells}
use Rattle.tracker.specs.State.{holder_of}
use Rattle.arrays.specs.Halves.{case_of, locality_at, shares_of}
use Rattle.arrays.specs.Laws.HalvesCode.{two, two_none, two_more, one_none}
use Rattle.arrays.specs.Laws.Stores.{store-more}
use Prim.Native.Nat.{◌≤◌, ◌-◌}
use Rattle.arrays.proofs.put_records.Goals as goal

pub loop-i-init : goal.loop-i-init
loop-i-init c = (omega arith, two_none _ _ _ _ _, one_none _ _ _)

pub loop-i-preserved : goal.loop-i-preserved
loop-i-preserved c = let l = c.loop-i in (
  omega arith,
  rw (c.case_of.ensures, c.holder_of.ensures, l.invariant.1) (two_more _ 37 2085 l.i _ _ (omega arith)),
  rw (c.share_of.ensures, l.invariant.2) (store-more _ 17 l.i _),
)

pub returns : goal.returns
returns c = let l = c.loop-i in let e : l.i ≡ max_cells = omega arith in record { halves_after = rw e at l.invariant.1; words_after = rw e at l.invariant.2 }
