-- A run as columns: T, N, and one list of 16 each for the tasks' places, ends, numbers of accesses done, and counts.
use Rattle.std.specs.Prelude.{Bool, not, List, ℕ, ltb, get_or}
use Rattle.codec.specs.Limit.{max_tasks}
use Rattle.pending.specs.declared.TaskRun.{TaskRun}
use Rattle.pending.specs.declared.Run.{Run}
use Rattle.scheduler.specs.declared.columns.Columns.{Columns}
use Rattle.scheduler.specs.Finish.{tasks_in}
use Rattle.pending.specs.All.{all_from}
use Rattle.pending.specs.Dones.{dones_of}
use Rattle.pending.specs.Each.{each}
use Rattle.pending.specs.Run.{task_at}

-- the run that the columns represent
abbrev pub task_of : List ℕ → List ℕ → List ℕ → List ℕ → ℕ → TaskRun
task_of places ends dones counts t = record { place = get_or places t 0; end = get_or ends t 0; done = get_or dones t 0; count = get_or counts t 0 }

abbrev pub run_of : ℕ → ℕ → ℕ → List ℕ → List ℕ → List ℕ → List ℕ → Run
run_of tasks objects fields places ends dones counts = record { tasks = tasks; objects = objects; fields = fields; runs = each (task_of places ends dones counts) max_tasks }

-- the columns of a run
abbrev pub place_of : List TaskRun → ℕ → ℕ
place_of runs t = (task_at runs t).place

abbrev pub end_of : List TaskRun → ℕ → ℕ
end_of runs t = (task_at runs t).end

abbrev pub count_of : List TaskRun → ℕ → ℕ
count_of runs t = (task_at runs t).count

abbrev pub columns_of : Run → Columns
columns_of r = record {
  places = each (place_of r.runs) max_tasks;
  ends = each (end_of r.runs) max_tasks;
  dones = dones_of r.runs;
  counts = each (count_of r.runs) max_tasks;
}

-- whether a task, or every task, has no accesses left, by the columns
abbrev pub done_by : List ℕ → List ℕ → ℕ → Bool
done_by dones counts t = not (ltb (get_or dones t 0) (get_or counts t 0))

abbrev pub all_done_of : ℕ → List ℕ → List ℕ → Bool
all_done_of tasks dones counts = all_from (done_by dones counts) 0 (tasks_in tasks)
