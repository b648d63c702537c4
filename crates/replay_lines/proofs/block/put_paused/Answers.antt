use native.Mathlib.Omega.{arith}
use Rattle.text.specs.Laws.Appended.{joined}
use Rattle.replay_lines.specs.Block.{paused_line}
use Rattle.replay_lines.proofs.Laws.BlockCode.{paused_length}
use Rattle.replay_lines.proofs.block.put_paused.Goals as goal

pub put_bytes-end-requires : goal.put_bytes-end-requires
put_bytes-end-requires c = omega (arith, paused_length c.args.steps)

pub put_field-requires : goal.put_field-requires
put_field-requires c = omega (arith, paused_length c.args.steps)

pub returns : goal.returns
unfolding paused_line
returns c = joined c.put_bytes-end.ensures c.put_field.ensures
