-- Laws of `Look`.
use Rattle.std.specs.Prelude.{◌≡◌, List, ℕ}
use Rattle.entries.specs.declared.Limits.{Limits}
use Rattle.pending.specs.declared.Run.{Run}
use Rattle.pending.specs.declared.TaskRun.{TaskRun}
use Rattle.pending.specs.Dones.{dones_of}
use Rattle.pending.specs.Run.{task_at, limits_of}

-- what the code knows of a run where it looks at a task: the task's record, T, N and the accesses done
pub record OneTask (r : Run) (t : ℕ) (x : TaskRun) (m : Limits) (dones : List ℕ) : Type 0 where
  pub task : x ≡ task_at r.runs t
  pub limits : m ≡ limits_of r t
  pub counts : dones_of r.runs ≡ dones
