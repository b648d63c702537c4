use native.Mathlib.Omega.{arith}
use Rattle.text.specs.Laws.Appended.{joined}
use Rattle.verdict.specs.Text.{no_of}
use Rattle.verdict.specs.Laws.Lines.{no_length}
use Rattle.verdict.proofs.put_no.Goals as goal

pub put_bytes-a-requires : goal.put_bytes-a-requires
put_bytes-a-requires c = omega (arith, no_length c.args.task c.args.offset)

pub put_field-b-requires : goal.put_field-b-requires
put_field-b-requires c = omega (arith, no_length c.args.task c.args.offset)

pub put_field-requires : goal.put_field-requires
put_field-requires c = omega (arith, no_length c.args.task c.args.offset)

pub returns : goal.returns
unfolding no_of
returns c = joined (joined c.put_bytes-a.ensures c.put_field-b.ensures) c.put_field.ensures
