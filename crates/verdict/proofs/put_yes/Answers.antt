use native.Mathlib.Omega.{arith}
use Rattle.text.specs.Laws.Appended.{joined}
use Rattle.verdict.specs.Text.{yes_of}
use Rattle.verdict.specs.Laws.Lines.{yes_length}
use Rattle.verdict.proofs.put_yes.Goals as goal

pub put_bytes-a-requires : goal.put_bytes-a-requires
put_bytes-a-requires c = omega (arith, yes_length c.args.order.now)

pub put_field-b-requires : goal.put_field-b-requires
put_field-b-requires c = omega (arith, yes_length c.args.order.now)

pub put_steps-requires : goal.put_steps-requires
put_steps-requires c = omega (arith, yes_length c.args.order.now)

pub returns : goal.returns
unfolding yes_of
returns c = joined (joined c.put_bytes-a.ensures c.put_field-b.ensures) c.put_steps.ensures
