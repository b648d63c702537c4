use Rattle.lines.specs.Asked.{read_by}
use Rattle.lines.proofs.asked.read.Goals as goal

pub returns-then-not-right : goal.returns-then-not-right
unfolding read_by
returns-then-not-right c = rw c.if-not-right.true

pub returns-in_err-number : goal.returns-in_err-number
unfolding read_by
returns-in_err-number c = rw (c.from_residual.ensures, c.if-not-right.false, ← c.in_err-number.ensures)

pub returns-in_err-number-2 : goal.returns-in_err-number-2
unfolding read_by
returns-in_err-number-2 c = rw (c.from_residual-in_err-number-2.ensures, c.if-not-right.false, ← c.in_ok-number.ensures, ← c.in_err-number-2.ensures)

pub returns-in_err-number-3 : goal.returns-in_err-number-3
unfolding read_by
returns-in_err-number-3 c = rw (c.from_residual-in_err-number-3.ensures, c.if-not-right.false, ← c.in_ok-number.ensures, ← c.in_ok-number-2.ensures, ← c.in_err-number-3.ensures)

pub returns : goal.returns
unfolding read_by
returns c = rw (c.if-not-right.false, ← c.in_ok-number.ensures, ← c.in_ok-number-2.ensures, ← c.in_ok-number-3.ensures)
