use mathlib.Core.Path.{refl, sym}
use Prim.Native.Nat.{◌<◌, ◌/◌}
use native.Mathlib.Nat.{le_antisymm}
use native.Mathlib.Omega.{arith}
use lib.ListN.{length, length-set}
use Rattle.codec.specs.Cell.{width_of}
use Rattle.codec.specs.Laws.Cell.{width_some, cells_few, object-is}
use Rattle.codec.specs.Limit.{max_cells}
use Rattle.tracker.proofs.Laws.Opened.{cells_none, cells_more, object-below}
use Rattle.opening.proofs.owned_cells.Goals as goal
use Rattle.opening.proofs.owned_cells.Goals.{In-loop-i}

-- the cell's object has an owner, and the cell has a record
has-owner : (c : In-loop-i) → c.loop-i.i / width_of c.args.fields < length c.args.owners.now
has-owner c = rw (object-is c.args.fields c.loop-i.i) at (object-below c.args.fields (length c.args.owners.now) c.loop-i.i (rw c.cells_of-i-end.ensures at c.loop-i-test.true))

has-record : (c : In-loop-i) → c.loop-i.i < max_cells
has-record c =
    omega (arith, c.loop-i-test.true, c.cells_of-i-end.ensures, cells_few c.args.fields (length c.args.owners.now) c.requires.1 c.requires.0)

pub loop-i-init : goal.loop-i-init
loop-i-init c = (omega arith, refl, sym (cells_none _ _))

pub nonzero_div-object : goal.nonzero_div-object
nonzero_div-object c = omega (arith, c.width_of-width.ensures, width_some c.args.fields)

pub bounds-owners-object : goal.bounds-owners-object
bounds-owners-object c = rw c.width_of-width.ensures (has-owner (goal.at.bounds-owners-object c).In-loop-i)

pub overflow_cast-locality : goal.overflow_cast-locality
overflow_cast-locality c = omega (arith, c.shared_slice_known-in-loop-i-1.given (c.loop-i.i / c.width_of-width.result))

pub offset_bounds-cells-i : goal.offset_bounds-cells-i
offset_bounds-cells-i c = omega (arith, has-record (goal.at.offset_bounds-cells-i c).In-loop-i)

pub bounds-cells-i : goal.bounds-cells-i
bounds-cells-i c = omega (arith, c.loop-i.invariant.1, has-record (goal.at.bounds-cells-i c).In-loop-i)

pub loop-i-preserved : goal.loop-i-preserved
loop-i-preserved c = let l = c.loop-i in (omega arith, simp length-set l.invariant.1, rw (cells_more c.args.owners.now c.args.fields l.i, object-is, l.invariant.2, c.width_of-width.ensures))

pub returns : goal.returns
returns c = let l = c.loop-i in rw (le_antisymm l.invariant.0 c.loop-i-test.false, c.cells_of-i-end.ensures) at l.invariant.2
