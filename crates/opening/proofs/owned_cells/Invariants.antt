use mathlib.Core.Path.{◌≡◌}
use Prim.Native.Nat.{◌≤◌, ◌-◌}
use lib.ListN.{length}
use Rattle.codec.specs.Limit.{max_cells}
use Rattle.tracker.specs.Opened.{owned_cells}
use Rattle.opening.proofs.owned_cells.Given as goal

abbrev pub invariant-loop-i : goal.invariant-loop-i
invariant-loop-i l = (l.i ≤ l.i-end) × (length l.cells ≡ max_cells) × (l.cells ≡ owned_cells l.owners l.fields l.i)

abbrev pub decreases-loop-i : goal.decreases-loop-i
decreases-loop-i l = l.i-end - l.i
