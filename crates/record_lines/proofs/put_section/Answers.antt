use native.Mathlib.Omega.{arith}
use Rattle.text.specs.Laws.Appended.{joined}
use Rattle.record_lines.specs.Laws.Lines.{section-line-length}
use Rattle.record_lines.specs.RecordLines.{section_line}
use Rattle.record_lines.proofs.put_section.Goals as goal

pub put_field-a-requires : goal.put_field-a-requires
put_field-a-requires c = omega (arith, section-line-length c.args.at c.args.task c.args.accesses c.args.size)

pub put_bytes-b-requires : goal.put_bytes-b-requires
put_bytes-b-requires c = omega (arith, section-line-length c.args.at c.args.task c.args.accesses c.args.size)

pub put_field-c-requires : goal.put_field-c-requires
put_field-c-requires c = omega (arith, section-line-length c.args.at c.args.task c.args.accesses c.args.size)

pub put_field-d-requires : goal.put_field-d-requires
put_field-d-requires c = omega (arith, section-line-length c.args.at c.args.task c.args.accesses c.args.size)

pub put_field-requires : goal.put_field-requires
put_field-requires c = omega (arith, section-line-length c.args.at c.args.task c.args.accesses c.args.size)

pub returns : goal.returns
unfolding section_line
returns c = joined (joined (joined (joined c.put_field-a.ensures c.put_bytes-b.ensures) c.put_field-c.ensures) c.put_field-d.ensures) c.put_field.ensures
