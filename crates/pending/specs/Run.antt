-- A run (document 01, "Replay"): for each task the place of its next record, its body's end, the number of accesses done and its
-- section's count.
use Rattle.std.specs.Prelude.{ℕ, ◌+◌, List, get_or, set, replicate}
use Rattle.codec.specs.Cell.{cells_of}
use Rattle.codec.specs.Limit.{max_tasks}
use Rattle.entries.specs.declared.Limits.{Limits}
use Rattle.pending.specs.declared.TaskRun.{TaskRun}
use Rattle.pending.specs.declared.Run.{Run}

abbrev pub blank_task : TaskRun
blank_task = record { place = 0; end = 0; done = 0; count = 0 }

abbrev pub blank_tasks : List TaskRun
blank_tasks = replicate max_tasks blank_task

-- the blank run, all zero
abbrev pub blank_run : Run
blank_run = record { tasks = 0; objects = 0; fields = 0; runs = blank_tasks }

abbrev pub task_at : List TaskRun → ℕ → TaskRun
task_at runs t = get_or runs t blank_task

-- the number of accesses a task has done
abbrev pub done_of : List TaskRun → ℕ → ℕ
done_of runs t = (task_at runs t).done

-- the limits of (f) and (g): T, N and the number of fields are the run's
abbrev pub limits_of : Run → ℕ → Limits
limits_of r t = record { tasks = r.tasks; objects = r.objects; fields = r.fields; own = t }

-- N times F: how many entries a memory has
abbrev pub cell_count : Run → ℕ
cell_count r = cells_of r.fields r.objects

-- a task moves on to a place, with one more access done
abbrev pub advanced : TaskRun → ℕ → TaskRun
advanced x next = record { place = next; end = x.end; done = x.done + 1; count = x.count }

unfoldable pub moved_of : Run → ℕ → ℕ → Run
moved_of r t next = record { tasks = r.tasks; objects = r.objects; fields = r.fields; runs = set r.runs t (advanced (task_at r.runs t) next) }
