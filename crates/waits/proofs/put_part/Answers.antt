use native.Mathlib.Omega.{arith}
use Rattle.text.specs.Laws.Appended.{joined}
use Rattle.waits.proofs.Laws.Waits.{field-short}
use Rattle.waits.proofs.put_part.Goals as goal

pub put_field-requires : goal.put_field-requires
put_field-requires c = omega (arith, field-short c.args.n c.args.after)

pub returns : goal.returns
returns c = record { appended = joined c.put_bytes-end.ensures c.put_field.ensures; upper_bound = omega (arith, field-short c.args.n c.args.after) }
