use borrow.Author.Tests.{eq-eqb, ne_eqb}
use Rattle.timed.proofs.opened.Goals as goal

pub returns-then-fields-eq0 : goal.returns-then-fields-eq0
returns-then-fields-eq0 c = rw (eq-eqb _ _ c.if-fields-eq0.true) record { value = c.open.ensures.value; memory_after = c.open.ensures.memory_after; out_after = c.open.ensures.out_after }

pub returns : goal.returns
returns c = rw (ne_eqb _ _ c.if-fields-eq0.false) record { value = c.open_fields.ensures.value; memory_after = c.open_fields.ensures.memory_after; out_after = c.open_fields.ensures.out_after }
