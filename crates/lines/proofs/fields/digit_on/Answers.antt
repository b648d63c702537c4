use Rattle.std.proofs.Common.{sym, ◌∙◌}
use Rattle.lines.specs.Laws.Number.{digit_off, digit_large, digit_sum}
use Rattle.lines.proofs.fields.digit_on.Goals as goal

pub returns-then-not-is_ascii_digit : goal.returns-then-not-is_ascii_digit
returns-then-not-is_ascii_digit c = sym (digit_off c.args.value c.args.byte (sym c.is_ascii_digit.ensures.value ∙ c.if-not-is_ascii_digit.true))

pub returns-in_err-checked_mul : goal.returns-in_err-checked_mul
returns-in_err-checked_mul c = c.from_residual.ensures ∙ sym (digit_large c.args.value c.args.byte c.in_err-checked_mul.ensures)

pub returns : goal.returns
returns c = digit_sum c.args.value c.args.byte _ _ _ (sym c.is_ascii_digit.ensures.value ∙ c.if-not-is_ascii_digit.false) c.in_ok-checked_mul.ensures.1 c.from.ensures c.checked_add.ensures
