use borrow.Author.Tests.{eq-eqb}
use Rattle.opening.specs.OpenOf.{entries_ok}
use Rattle.opening.proofs.entries_ok.Goals as goal

pub returns-then-starts-cells : goal.returns-then-starts-cells
unfolding entries_ok
returns-then-starts-cells c = let t = c.if-starts-cells.true in rw (eq-eqb _ _ t.0, ← c.cells_of-cells.ensures, eq-eqb _ _ t.1)
