use native.Mathlib.Omega.{arith}
use Rattle.text.specs.Laws.Appended.{joined}
use Rattle.replay_lines.specs.Block.{turned_line}
use Rattle.replay_lines.proofs.Laws.BlockCode.{turned_length}
use Rattle.replay_lines.proofs.block.put_turned.Goals as goal

pub put_field-a-requires : goal.put_field-a-requires
put_field-a-requires c = omega (arith, turned_length c.args.task c.args.number)

pub put_bytes-b-requires : goal.put_bytes-b-requires
put_bytes-b-requires c = omega (arith, turned_length c.args.task c.args.number)

pub put_field-requires : goal.put_field-requires
put_field-requires c = omega (arith, turned_length c.args.task c.args.number)

pub returns : goal.returns
unfolding turned_line
returns c = joined (joined c.put_field-a.ensures c.put_bytes-b.ensures) c.put_field.ensures
