use native.Mathlib.Omega.{arith}
use Rattle.text.specs.Laws.Appended.{joined}
use Rattle.record_lines.specs.Laws.Lines.{head-line-length}
use Rattle.record_lines.specs.RecordLines.{head_line}
use Rattle.record_lines.proofs.put_head.Goals as goal

pub put_field-a-requires : goal.put_field-a-requires
put_field-a-requires c = omega (arith, head-line-length c.args.at c.args.tasks c.args.objects c.args.fields)

pub put_bytes-b-requires : goal.put_bytes-b-requires
put_bytes-b-requires c = omega (arith, head-line-length c.args.at c.args.tasks c.args.objects c.args.fields)

pub put_field-c-requires : goal.put_field-c-requires
put_field-c-requires c = omega (arith, head-line-length c.args.at c.args.tasks c.args.objects c.args.fields)

pub put_objects-requires : goal.put_objects-requires
put_objects-requires c = omega (arith, head-line-length c.args.at c.args.tasks c.args.objects c.args.fields)

pub returns : goal.returns
unfolding head_line
returns c = joined (joined (joined c.put_field-a.ensures c.put_bytes-b.ensures) c.put_field-c.ensures) c.put_objects.ensures
