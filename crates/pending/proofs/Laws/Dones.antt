-- Laws of `Dones`.
use Rattle.std.specs.Prelude.{◌≡◌, List, ℕ, ◌<◌, get_or}
use Rattle.codec.specs.Limit.{max_tasks}
use Rattle.pending.specs.declared.TaskRun.{TaskRun}
use Rattle.pending.proofs.Laws.Each.{each_at}
use Rattle.pending.specs.Run.{done_of}
use Rattle.pending.specs.Dones.{dones_of}

pub dones_at : (runs : List TaskRun) (t : ℕ) → t < max_tasks → get_or (dones_of runs) t 0 ≡ done_of runs t
dones_at runs t h = each_at (done_of runs) max_tasks t 0 h
