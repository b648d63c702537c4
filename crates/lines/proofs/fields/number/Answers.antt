use Rattle.std.proofs.Common.{arith, rules, sym, ◌∙◌}
use borrow.Author.Tests.{tests}
use Rattle.lines.specs.Laws.Number.{number_empty, number-some, digits_next, digits_off, digits_end}
use Rattle.lines.proofs.fields.number.Goals as goal

pub returns-then-is_empty : goal.returns-then-is_empty
returns-then-is_empty c = sym (number_empty c.args.word.now (search (rules, tests)))

pub loop-byte-init : goal.loop-byte-init
loop-byte-init c = number-some c.args.word.now (search (rules, tests))

pub returns-in_err-value : goal.returns-in_err-value
returns-in_err-value c = let l = c.loop-byte in
    c.from_residual.ensures ∙ sym (digits_off l.value l.byte-index c.args.word.now (omega arith) (sym (c.in_err-value.ensures))) ∙ l.invariant

pub loop-byte-preserved : goal.loop-byte-preserved
loop-byte-preserved c = let l = c.loop-byte in
    sym (digits_next l.value l.byte-index c.in_ok-value.value c.args.word.now (omega arith) (sym (c.in_ok-value.ensures))) ∙ l.invariant

pub returns : goal.returns
returns c = let l = c.loop-byte in sym (digits_end l.value l.byte-index c.args.word.now (omega arith)) ∙ l.invariant
