use native.Mathlib.Omega.{arith}
use Rattle.text.specs.Laws.Appended.{joined}
use Rattle.replay_lines.specs.Lines.{line_of}
use Rattle.replay_lines.proofs.Laws.Lines.{line-length}
use Rattle.replay_lines.proofs.put_step.Goals as goal

pub put_field-a-requires : goal.put_field-a-requires
put_field-a-requires c = omega (arith, line-length c.args.task c.args.s)

pub put_field-b-requires : goal.put_field-b-requires
put_field-b-requires c = omega (arith, line-length c.args.task c.args.s)

pub put_byte-c-requires : goal.put_byte-c-requires
put_byte-c-requires c = omega (arith, line-length c.args.task c.args.s)

pub put_byte-d-requires : goal.put_byte-d-requires
put_byte-d-requires c = omega (arith, line-length c.args.task c.args.s)

pub put_object-e-requires : goal.put_object-e-requires
put_object-e-requires c = omega (arith, line-length c.args.task c.args.s)

pub put_field-requires : goal.put_field-requires
put_field-requires c = omega (arith, line-length c.args.task c.args.s)

pub returns : goal.returns
unfolding line_of
returns c = let front = joined c.put_field-a.ensures c.put_field-b.ensures in
    let sort = joined (rw c.letter.ensures at c.put_byte-c.ensures) c.put_byte-d.ensures in
    joined (joined (joined front sort) c.put_object-e.ensures) c.put_field.ensures
