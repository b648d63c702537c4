use Rattle.std.proofs.Common.{arith, ◌∙◌}
use Rattle.lines.specs.Laws.AskedCode.{plain_read, plain_write, plain_none}
use Rattle.lines.proofs.asked.plain.Goals as goal

pub returns-in-3 : goal.returns-in-3
returns-in-3 c = let f = c.fields in c.read.ensures ∙ rw c.is_read.ensures (plain_read _ _ _ f.ensures.out_after (omega arith) (omega (arith, f.ensures.value)))

pub returns-in-4 : goal.returns-in-4
returns-in-4 c = let f = c.fields in c.write.ensures ∙ rw c.is_write.ensures (plain_write _ _ _ f.ensures.out_after (omega arith) (omega (arith, f.ensures.value)))

pub returns-in_default : goal.returns-in_default
returns-in_default c = let f = c.fields in plain_none _ (λ z. omega (arith, f.ensures.value, c.in_default)) (λ z. omega (arith, f.ensures.value, c.in_default))
