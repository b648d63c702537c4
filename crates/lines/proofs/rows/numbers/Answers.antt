use Rattle.std.proofs.Common.{ap, ◌∙◌, sym, refl, Some}
use Rattle.std.proofs.lemmas.List.{length-replicate}
use Rattle.lines.specs.Laws.Rows.{numbers-some, numbers-none}
use Rattle.lines.proofs.rows.numbers.Goals as goal

pub returns-then-not-read_row : goal.returns-then-not-read_row
returns-then-not-read_row g c = sym (numbers-none _ _ (rw length-replicate at (sym c.if-not-read_row.ensures.value)))

pub returns : goal.returns
returns g c =
    let e = rw length-replicate at (sym c.if-not-read_row.ensures.value) in
    ap Some (c.if-not-read_row.ensures.row_after refl) ∙ sym (numbers-some _ _ e)
