use mathlib.Core.Path.{sym, ◌∙◌}
use Rattle.record_lines.specs.RecordLines.{value_of}
use Rattle.record_lines.proofs.put_value.Goals as goal

pub put_field-requires : goal.put_field-requires
unfolding value_of
put_field-requires c = rw (sym c.stores_value.ensures ∙ c.if-stores_value.true) at c.requires

pub returns-then-stores_value : goal.returns-then-stores_value
unfolding value_of
returns-then-stores_value c = rw (sym c.stores_value.ensures ∙ c.if-stores_value.true) c.put_field.ensures

pub put_bytes-requires : goal.put_bytes-requires
unfolding value_of
put_bytes-requires c = rw (sym c.stores_value.ensures ∙ c.if-stores_value.false) at c.requires

pub returns : goal.returns
unfolding value_of
returns c = rw (sym c.stores_value.ensures ∙ c.if-stores_value.false) c.put_bytes.ensures
