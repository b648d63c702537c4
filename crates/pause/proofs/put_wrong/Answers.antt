use native.Mathlib.Omega.{arith}
use Rattle.text.specs.Laws.Appended.{joined}
use Rattle.text.specs.Laws.Decimal.{decimal_short, field-length}
use Rattle.pause.proofs.put_wrong.Goals as goal

pub put_field-b-requires : goal.put_field-b-requires
put_field-b-requires c = omega (arith, c.put_bytes-a.ensures.behind, field-length c.args.line 32, decimal_short c.args.line, c.requires)

pub put_bytes-requires : goal.put_bytes-requires
put_bytes-requires c = omega (arith, c.put_field-b.ensures.behind, c.put_bytes-a.ensures.behind, field-length c.args.line 32, decimal_short c.args.line, c.requires)

pub returns : goal.returns
returns c = joined (joined c.put_bytes-a.ensures c.put_field-b.ensures) c.put_bytes.ensures
