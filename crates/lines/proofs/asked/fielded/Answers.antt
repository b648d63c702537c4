use Rattle.std.proofs.Common.{arith, ◌∙◌}
use Rattle.lines.specs.Laws.AskedCode.{fielded_read, fielded_write, fielded_none}
use Rattle.lines.proofs.asked.fielded.Goals as goal

pub returns-in-4 : goal.returns-in-4
returns-in-4 c = let f = c.fields in c.read.ensures ∙ rw c.is_read.ensures (fielded_read _ _ _ f.ensures.out_after (omega arith) (omega (arith, f.ensures.value)))

pub returns-in-5 : goal.returns-in-5
returns-in-5 c = let f = c.fields in c.write.ensures ∙ rw c.is_write.ensures (fielded_write _ _ _ f.ensures.out_after (omega arith) (omega (arith, f.ensures.value)))

pub returns-in_default : goal.returns-in_default
returns-in_default c = let f = c.fields in fielded_none _ (λ z. omega (arith, f.ensures.value, c.in_default)) (λ z. omega (arith, f.ensures.value, c.in_default))
