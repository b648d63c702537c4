use mathlib.Core.Path.{refl, sym, ◌∙◌}
use lib.Seq.{set_out}
use Rattle.replayer.proofs.stepping.perform.Goals as goal

pub returns-then-cell-memory : goal.returns-then-cell-memory
returns-then-cell-memory c = rw (sym c.writes.ensures ∙ c.if-writes.true) record { value = refl; memory_after = refl }

pub returns-else-cell-memory : goal.returns-else-cell-memory
returns-else-cell-memory c = rw (sym c.writes.ensures ∙ c.if-writes.true) record { value = refl; memory_after = sym (set_out _ _ _ c.if-cell-memory.false) }

pub returns : goal.returns
returns c = rw (sym c.writes.ensures ∙ c.if-writes.false) record { value = c.held.ensures; memory_after = refl }
