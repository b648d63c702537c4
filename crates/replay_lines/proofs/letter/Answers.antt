use mathlib.Core.Path.{sym, ◌∙◌}
use Rattle.replay_lines.proofs.letter.Goals as goal

pub returns-then-reads : goal.returns-then-reads
returns-then-reads c = rw (sym c.reads.ensures ∙ c.if-reads.true)

pub returns-else-reads : goal.returns-else-reads
returns-else-reads c = rw (sym c.reads.ensures ∙ c.if-reads.false)
