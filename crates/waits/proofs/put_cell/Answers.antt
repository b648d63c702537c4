use mathlib.Core.Path.{sym, ◌∙◌}
use Rattle.text.specs.Laws.Appended.{joined}
use Rattle.waits.proofs.Laws.Differ.{cell_field, cell-bare}
use borrow.Author.Rules.{rules}
use Rattle.waits.proofs.put_cell.Goals as goal

pub returns-then-has_field : goal.returns-then-has_field
returns-then-has_field c = record { appended = rw (cell_field c.args.op (sym c.has_field.ensures ∙ c.if-has_field.true)) (joined c.put_part-end.ensures.appended c.put_part.ensures.appended); upper_bound = search rules }

pub returns : goal.returns
returns c = record { appended = rw (cell-bare c.args.op (sym c.has_field.ensures ∙ c.if-has_field.false)) c.put_part-2.ensures.appended; upper_bound = search rules }
