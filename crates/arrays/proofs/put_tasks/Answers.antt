use mathlib.Core.Path.{◌≡◌}
use native.Mathlib.Omega.{arith}
use lib.ListN.{get_or}
use Rattle.codec.specs.Store.{store}
use Rattle.codec.specs.Limit.{max_tasks}
use Rattle.arrays.specs.Halves.{first_of}
use Rattle.arrays.specs.Laws.HalvesCode.{two, two_none, two_more, one_none}
use Rattle.arrays.specs.Laws.Stores.{store-more}
use Prim.Native.Nat.{◌≤◌, ◌-◌}
use Rattle.arrays.proofs.put_tasks.Goals as goal

pub loop-t-init : goal.loop-t-init
loop-t-init c = (omega arith, two_none _ _ _ _ _, one_none _ _ _)

pub loop-t-preserved : goal.loop-t-preserved
loop-t-preserved c = let l = c.loop-t in
    (omega arith, rw l.invariant.1 (two_more _ 5 21 l.t _ _ (omega arith)), rw l.invariant.2 (store-more _ 1 l.t _))

pub returns : goal.returns
returns c = let l = c.loop-t in let e : l.t ≡ max_tasks = omega arith in record { halves_after = rw e at l.invariant.1; words_after = rw e at l.invariant.2 }
