use native.Mathlib.Omega.{arith}
use mathlib.Core.Path.{sym, ◌∙◌}
use lib.ListN.{length-append}
use Rattle.text.specs.Laws.Appended.{joined}
use Rattle.replay_lines.proofs.Laws.Lines.{object-field, object-bare, object-long}
use Rattle.replay_lines.proofs.put_object.Goals as goal

pub put_field-end-requires : goal.put_field-end-requires
put_field-end-requires c = omega (arith, object-long c.args.kind c.args.object c.args.field)

pub put_field-requires : goal.put_field-requires
put_field-requires c = omega (arith, rw (object-field c.args.kind c.args.object c.args.field (sym c.has_field.ensures ∙ c.if-has_field.true), length-append) at c.requires)

pub returns-then-has_field : goal.returns-then-has_field
returns-then-has_field c = rw (object-field c.args.kind c.args.object c.args.field (sym c.has_field.ensures ∙ c.if-has_field.true)) (joined c.put_field-end.ensures c.put_field.ensures)

pub returns : goal.returns
returns c = rw (object-bare c.args.kind c.args.object c.args.field (sym c.has_field.ensures ∙ c.if-has_field.false)) c.put_field-end.ensures
