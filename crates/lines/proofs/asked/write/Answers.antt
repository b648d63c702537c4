use Rattle.std.proofs.Common.{sym, ◌∙◌}
use Rattle.lines.specs.Laws.AskedCode.{write-none, write-bare, write-valued}
use Rattle.lines.proofs.asked.write.Goals as goal

pub returns-in_err-place : goal.returns-in_err-place
returns-in_err-place c = let a = c.args in c.from_residual.ensures ∙ sym (write-none a.right a.task a.object a.field a.value (sym c.in_err-place.ensures))

pub returns-in_err-number : goal.returns-in_err-number
returns-in_err-number c = let a = c.args in c.from_residual-in_err-number.ensures ∙ sym (write-bare a.right a.task a.object a.field a.value (sym c.in_err-number.ensures))

pub returns : goal.returns
returns c = let a = c.args in write-valued a.right a.task a.object a.field a.value _ _ (sym c.in_ok-place.ensures) (sym c.in_ok-number.ensures)
