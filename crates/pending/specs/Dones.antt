-- The numbers of accesses done by a run's 16 tasks, as one list; orderings are compared with them.
use Rattle.std.specs.Prelude.{List, ℕ}
use Rattle.codec.specs.Limit.{max_tasks}
use Rattle.pending.specs.declared.TaskRun.{TaskRun}
use Rattle.pending.specs.Each.{each}
use Rattle.pending.specs.Run.{done_of}

abbrev pub dones_of : List TaskRun → List ℕ
dones_of runs = each (done_of runs) max_tasks
