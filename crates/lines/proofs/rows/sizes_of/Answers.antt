use Rattle.std.proofs.Common.{sym, ◌∙◌}
use Rattle.lines.specs.Laws.Rows.{sizes-two, sizes-three, sizes-none}
use Rattle.lines.proofs.rows.sizes_of.Goals as goal

pub returns-in-Some : goal.returns-in-Some
returns-in-Some c = sizes-two _ _ (sym c.in-Some.ensures)

pub returns-in_err-tasks : goal.returns-in_err-tasks
returns-in_err-tasks c = c.from_residual.ensures ∙ sym (sizes-none _ (sym c.in_default.ensures) (sym c.in_err-tasks.ensures))

pub returns : goal.returns
returns c = sizes-three _ _ (sym c.in_default.ensures) (sym c.in_ok-tasks.ensures)
