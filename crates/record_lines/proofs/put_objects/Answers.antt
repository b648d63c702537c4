use native.Mathlib.Omega.{arith}
use lib.ListN.{length-append}
use Rattle.text.specs.Laws.Appended.{joined}
use Rattle.record_lines.specs.Laws.Lines.{objects_alone, objects-fields}
use Rattle.record_lines.proofs.put_objects.Goals as goal

pub put_field-requires : goal.put_field-requires
put_field-requires c = rw (objects_alone c.args.objects c.args.fields c.if-fields-eq0.true) at c.requires

pub returns-then-fields-eq0 : goal.returns-then-fields-eq0
returns-then-fields-eq0 c = rw (objects_alone c.args.objects c.args.fields c.if-fields-eq0.true) c.put_field.ensures

pub put_field-a-requires : goal.put_field-a-requires
put_field-a-requires c = omega (arith, rw (objects-fields c.args.objects c.args.fields c.if-fields-eq0.false, length-append) at c.requires)

pub put_field-requires-2 : goal.put_field-requires-2
put_field-requires-2 c = omega (arith, rw (objects-fields c.args.objects c.args.fields c.if-fields-eq0.false, length-append) at c.requires)

pub returns : goal.returns
returns c = rw (objects-fields c.args.objects c.args.fields c.if-fields-eq0.false) (joined c.put_field-a.ensures c.put_field-2.ensures)
