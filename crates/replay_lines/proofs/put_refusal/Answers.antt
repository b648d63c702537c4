use native.Mathlib.Omega.{arith}
use Rattle.text.specs.Laws.Appended.{joined}
use Rattle.replay_lines.specs.Lines.{refusal_of}
use Rattle.replay_lines.proofs.Laws.Lines.{refusal_length}
use Rattle.replay_lines.proofs.put_refusal.Goals as goal

pub put_bytes-a-requires : goal.put_bytes-a-requires
put_bytes-a-requires c = omega (arith, refusal_length c.args.number c.args.offset)

pub put_field-b-requires : goal.put_field-b-requires
put_field-b-requires c = omega (arith, refusal_length c.args.number c.args.offset)

pub put_field-requires : goal.put_field-requires
put_field-requires c = omega (arith, refusal_length c.args.number c.args.offset)

pub returns : goal.returns
unfolding refusal_of
returns c = joined (joined c.put_bytes-a.ensures c.put_field-b.ensures) c.put_field.ensures
