use native.Mathlib.Omega.{arith}
use Rattle.text.specs.Laws.Appended.{joined}
use Rattle.replay_lines.specs.Block.{block_of}
use Rattle.replay_lines.proofs.Laws.BlockCode.{block_length}
use Rattle.replay_lines.proofs.block.put_block.Goals as goal

pub put_paused-a-requires : goal.put_paused-a-requires
put_paused-a-requires c = let a = c.args in
    omega (arith, block_length a.steps a.run a.word a.memory.now)

pub put_done-b-requires : goal.put_done-b-requires
put_done-b-requires c = let a = c.args in
    (c.requires.0, omega (arith, block_length a.steps a.run a.word a.memory.now))

pub put_ready-c-requires : goal.put_ready-c-requires
put_ready-c-requires c = let a = c.args in
    omega (arith, block_length a.steps a.run a.word a.memory.now)

pub put_values-requires : goal.put_values-requires
put_values-requires c = let a = c.args in
    omega (arith, block_length a.steps a.run a.word a.memory.now)

pub returns : goal.returns
unfolding block_of
returns c = joined (joined (joined c.put_paused-a.ensures c.put_done-b.ensures) c.put_ready-c.ensures) c.put_values.ensures
