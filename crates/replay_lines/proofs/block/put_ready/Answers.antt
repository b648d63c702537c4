use mathlib.Core.Path.{sym}
use lib.Seq.{length-take-le}
use Rattle.replay_lines.proofs.block.put_ready.Goals as goal

pub slice_bounds-tasks-end : goal.slice_bounds-tasks-end
slice_bounds-tasks-end c = c.ready_tasks-n.ensures.0

pub put_row-requires : goal.put_row-requires
put_row-requires c = rw c.ready_tasks-n.ensures.1 c.requires

pub returns : goal.returns
returns c = rw c.ready_tasks-n.ensures.1 at c.put_row.ensures
