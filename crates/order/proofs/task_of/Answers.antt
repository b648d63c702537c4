use Rattle.std.proofs.Common.{sym, ◌∙◌}
use Rattle.order.specs.Laws.OrderCode.{task-read, task-missing}
use Rattle.order.proofs.task_of.Goals as goal

pub returns-in_err-row : goal.returns-in_err-row
returns-in_err-row c = c.from_residual.ensures ∙ sym (task-missing c.args.line.now (sym c.in_err-row.ensures))

pub returns : goal.returns
returns c = task-read c.args.line.now _ (sym c.in_ok-row.ensures)
