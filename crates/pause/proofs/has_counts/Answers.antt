use borrow.Author.Tests.{eq-eqb, ne_eqb}
use Rattle.pause.specs.Request.{has_counts}
use Rattle.pause.proofs.has_counts.Goals as goal

pub returns-then-counts-eq0 : goal.returns-then-counts-eq0
unfolding has_counts
returns-then-counts-eq0 c = rw (eq-eqb _ 0 c.if-counts-eq0.true)

pub returns : goal.returns
unfolding has_counts
returns c = rw (ne_eqb _ 0 c.if-counts-eq0.false)
