use mathlib.Core.Path.{sym, ◌∙◌}
use Rattle.replayer.proofs.stepping.agrees.Goals as goal

pub returns-then-not-valued_read : goal.returns-then-not-valued_read
returns-then-not-valued_read c = rw (← c.valued_read.ensures, c.if-not-valued_read.true)

pub returns-else-not-valued_read : goal.returns-else-not-valued_read
returns-else-not-valued_read c = rw (sym c.valued_read.ensures ∙ c.if-not-valued_read.false, ← c.held.ensures)
