-- Laws of `Sound`.
use Rattle.std.specs.Prelude.{ℕ, ◌≤◌, ◌<◌}
use Rattle.codec.specs.Limit.{max_tasks, max_objects, max_fields}
use Rattle.pending.specs.declared.TaskRun.{TaskRun}
use Rattle.pending.specs.declared.Run.{Run}
use Rattle.pending.specs.Run.{task_at}

-- soundness as separate facts
pub record SoundTask (size : ℕ) (x : TaskRun) : Type 0 where
  pub done : x.done ≤ x.count
  pub place : x.place ≤ x.end
  pub end : x.end ≤ size

pub record Sound (r : Run) (size : ℕ) : Type 0 where
  pub some_tasks : 1 ≤ r.tasks
  pub few_tasks : r.tasks ≤ max_tasks
  pub some_objects : 1 ≤ r.objects
  pub few_objects : r.objects ≤ max_objects
  pub few_fields : r.fields ≤ max_fields
  pub task : (t : ℕ) → t < r.tasks → SoundTask size (task_at r.runs t)
