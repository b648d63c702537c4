use native.Mathlib.Omega.{arith}
use Rattle.text.specs.Laws.Appended.{joined}
use Rattle.record_lines.specs.Laws.Lines.{records-line-length}
use Rattle.record_lines.specs.RecordLines.{records_line}
use Rattle.record_lines.proofs.put_records.Goals as goal

pub put_bytes-a-requires : goal.put_bytes-a-requires
put_bytes-a-requires c = omega (arith, records-line-length c.args.records)

pub put_field-requires : goal.put_field-requires
put_field-requires c = omega (arith, records-line-length c.args.records)

pub returns : goal.returns
unfolding records_line
returns c = joined c.put_bytes-a.ensures c.put_field.ensures
