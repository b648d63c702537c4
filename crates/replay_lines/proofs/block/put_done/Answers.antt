use mathlib.Core.Path.{◌≡◌, sym}
use lib.ListN.{take}
use Rattle.pending.specs.Each.{each}
use Rattle.pending.proofs.Laws.Each.{each-length}
use Rattle.pending.specs.Run.{done_of}
use Rattle.replay_lines.proofs.Laws.BlockCode.{each-front}
use Rattle.replay_lines.proofs.block.put_done.Goals as goal
use Rattle.replay_lines.proofs.block.put_done.Goals.{After-dones-1}

front : (c : After-dones-1) → let r = c.args.run in take r.tasks c.dones_of-dones.result ≡ each (done_of r.runs) r.tasks
front c = rw c.dones_of-dones.ensures (each-front _ _ _ c.requires.0)

pub put_row-requires : goal.put_row-requires
put_row-requires c = rw (front (goal.at.put_row-requires c).After-dones-1) c.requires.1

pub returns : goal.returns
returns c = rw (front (goal.at.returns c).After-dones-1) at c.put_row.ensures
