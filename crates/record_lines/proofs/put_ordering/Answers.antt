use native.Mathlib.Omega.{arith}
use Rattle.text.specs.Laws.Appended.{joined}
use Rattle.record_lines.specs.Laws.Lines.{ordering-line-length}
use Rattle.record_lines.specs.RecordLines.{ordering_line}
use Rattle.record_lines.proofs.put_ordering.Goals as goal

pub put_field-a-requires : goal.put_field-a-requires
put_field-a-requires c = omega (arith, ordering-line-length c.args.at c.args.own c.args.q)

pub put_bytes-b-requires : goal.put_bytes-b-requires
put_bytes-b-requires c = omega (arith, ordering-line-length c.args.at c.args.own c.args.q)

pub put_field-c-requires : goal.put_field-c-requires
put_field-c-requires c = omega (arith, ordering-line-length c.args.at c.args.own c.args.q)

pub put_bytes-d-requires : goal.put_bytes-d-requires
put_bytes-d-requires c = omega (arith, ordering-line-length c.args.at c.args.own c.args.q)

pub put_field-e-requires : goal.put_field-e-requires
put_field-e-requires c = omega (arith, ordering-line-length c.args.at c.args.own c.args.q)

pub put_field-requires : goal.put_field-requires
put_field-requires c = omega (arith, ordering-line-length c.args.at c.args.own c.args.q)

pub returns : goal.returns
unfolding ordering_line
returns c = joined (joined (joined (joined (joined c.put_field-a.ensures c.put_bytes-b.ensures) c.put_field-c.ensures) c.put_bytes-d.ensures) c.put_field-e.ensures) c.put_field.ensures
