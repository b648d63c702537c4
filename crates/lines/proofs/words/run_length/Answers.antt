use Rattle.std.proofs.Common.{◌∙◌}
use Rattle.lines.specs.Laws.WordsCode.{run_found}
use Rattle.lines.proofs.words.run_length.Goals as goal

pub returns-clause-value : goal.returns-clause-value
returns-clause-value c = c.unwrap_or.ensures ∙ run_found c.args.blanks c.args.line.now c.run_end.result c.run_end.ensures
