use Rattle.std.proofs.Common.{sym, ◌∙◌, rules}
use Rattle.std.specs.Cmp.Lexicographic.{same_text, other_text}
use Rattle.lines.specs.Laws.Fields.{field-read, field-write, field-number}
use Rattle.lines.proofs.fields.field.Goals as goal

pub returns-then-eq : goal.returns-then-eq
returns-then-eq c = sym (field-read c.args.word.now (same_text _ _ c.if-eq.ensures ∙ c.as_slice.ensures))

pub returns-then-eq-2 : goal.returns-then-eq-2
returns-then-eq-2 c = sym (field-write c.args.word.now (same_text _ _ c.if-eq-2.ensures ∙ c.as_slice-2.ensures))

pub returns : goal.returns
returns c =
    let e = field-number c.args.word.now (λ z. other_text _ _ c.if-eq.ensures (z ∙ sym c.as_slice.ensures)) (λ z. other_text _ _ c.if-eq-2.ensures (z ∙ sym c.as_slice-2.ensures)) in
    search rules
