use Rattle.lines.specs.Laws.RowCode.{Rows}
use Rattle.lines.specs.Words.{bare_of}
use Rattle.lines.proofs.rows.read_row.Given as goal

abbrev pub invariant-loop-place : goal.invariant-loop-place
invariant-loop-place l = Rows (bare_of l.line) l.initial.row l.rest l.place-index l.row
