use native.Mathlib.Omega.{arith}
use Rattle.text.specs.Laws.Appended.{joined}
use Rattle.text.specs.Laws.Decimal.{field-length}
use Rattle.text.proofs.put_field.Goals as goal

pub put_number-end-requires : goal.put_number-end-requires
put_number-end-requires c = omega (arith, field-length c.args.n c.args.after)

pub put_byte-requires : goal.put_byte-requires
put_byte-requires c = omega (arith, field-length c.args.n c.args.after, c.put_number-end.ensures.behind)

pub returns : goal.returns
returns c = joined c.put_number-end.ensures c.put_byte.ensures
