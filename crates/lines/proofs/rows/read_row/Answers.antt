use Rattle.std.proofs.Common.{arith, ap, sym, ◌∙◌}
use Rattle.std.proofs.lemmas.List.{set-get_or}
use Rattle.lines.specs.Field.{numeral_of}
use Rattle.lines.specs.Laws.RowCode.{rows_none, rows-short, rows-bad, rows-more, rows-told, stored-ended, stored-full, stored-bad}
use Rattle.lines.proofs.rows.read_row.Goals as goal

pub loop-place-init : goal.loop-place-init
loop-place-init c = rw c.bare-rest.ensures (rows_none _ _)

pub returns-in_default-clause-value : goal.returns-in_default-clause-value
returns-in_default-clause-value c = let l = c.loop-place in rw (← l.auto.row) (sym (rows-short l.invariant c.in_default.ensures (omega arith)))

pub returns-in_default-number-clause-value : goal.returns-in_default-number-clause-value
returns-in_default-number-clause-value c = let l = c.loop-place in
    rw (← l.auto.row) (sym (rows-bad l.invariant _ _ c.in-Some.ensures.found (sym (ap numeral_of c.field.ensures) ∙ sym c.in_default-number.ensures)))

pub returns-in_default-clause-row_stored : goal.returns-in_default-clause-row_stored
returns-in_default-clause-row_stored c = set-get_or _ _ _ ∙ stored-ended c.loop-place.invariant c.in_default.ensures

pub returns-in_default-number-clause-row_stored : goal.returns-in_default-number-clause-row_stored
returns-in_default-number-clause-row_stored c =
    set-get_or _ _ _ ∙ stored-bad c.loop-place.invariant _ _ c.in-Some.ensures.found (sym (ap numeral_of c.field.ensures) ∙ sym c.in_default-number.ensures)

pub loop-place-preserved : goal.loop-place-preserved
loop-place-preserved c =
    rows-more c.loop-place.invariant _ _ c.in-Some.ensures.found c.in-Some-number.number (omega arith) (sym (ap numeral_of c.field.ensures) ∙ sym c.in-Some-number.ensures)

pub returns-clause-value : goal.returns-clause-value
returns-clause-value c = let l = c.loop-place in rw (← l.auto.row) (rows-told l.invariant _ _ c.next_word-2.ensures c.is_none.ensures (omega arith)).0

pub returns-clause-row_after : goal.returns-clause-row_after
returns-clause-row_after c = (rows-told c.loop-place.invariant _ _ c.next_word-2.ensures c.is_none.ensures (omega arith)).1

pub returns-clause-row_stored : goal.returns-clause-row_stored
returns-clause-row_stored c = stored-full c.loop-place.invariant (omega arith)
