-- Lowest ready task first, played to the end (document 01, "Replay"): the lowest ready task is stepped until a step is not taken. Then no
-- task is ready, or the memory differs from the value in the read's record (document 02, F-3; `Laws/Finish.finish_ends`). A run has
-- finished if no task has accesses left; if it has not and no task is ready, it is stuck.
use Rattle.std.specs.Prelude.{Bool, cond, not, List, ℕ, zero, suc, ◌+◌, ◌-◌, min, eqb}
use Rattle.pending.specs.declared.TaskRun.{TaskRun}
use Rattle.pending.specs.declared.Run.{Run}
use Rattle.codec.specs.Limit.{max_tasks}
use Rattle.pending.specs.All.{all_from}
use Rattle.replayer.specs.ReadyOf.{has_left, ready_of}
use Rattle.pending.specs.Run.{task_at}
use Rattle.replayer.specs.StepOf.{step_of}
use Rattle.replayer.specs.Word.{lowest_ready}

-- a run under way: its memory and the number of steps taken
pub record Play : Type 0 where
  pub run : Run
  pub memory : List ℕ
  pub steps : ℕ

-- the ready word, and the next task by it
abbrev pub word_at : List ℕ → Play → ℕ
word_at b x = (ready_of x.run b).word

abbrev pub task_next : List ℕ → Play → ℕ
task_next b x = lowest_ready (word_at b x)

-- a step of a task is taken if its number is 0
abbrev pub takes_step : List ℕ → Play → ℕ → Bool
takes_step b x t = eqb (step_of x.run b x.memory t).answer.number 0

-- the play after a step that is taken
abbrev pub stepped_by : List ℕ → Play → ℕ → Play
stepped_by b x t = record {
  run = (step_of x.run b x.memory t).answer.run;
  memory = (step_of x.run b x.memory t).memory;
  steps = x.steps + 1;
}

-- the step of the lowest ready task; if none is ready, this is no task, and the step is not taken
abbrev pub goes_on : List ℕ → Play → Bool
goes_on b x = takes_step b x (task_next b x)

unfoldable pub onward : List ℕ → Play → Play
onward b x = stepped_by b x (task_next b x)

-- at most n steps, up to the first that is not taken
unfoldable pub played_of : ℕ → List ℕ → Play → Play
played_of zero b x = x
played_of (suc fuel) b x = cond (goes_on b x) (played_of fuel b (onward b x)) x

-- the accesses left to the first n tasks, and to all; each step takes one, so this many steps are enough
unfoldable pub left_in : List TaskRun → ℕ → ℕ
left_in runs zero = 0
left_in runs (suc n) = left_in runs n + ((task_at runs n).count - (task_at runs n).done)

abbrev pub left_over : Run → ℕ
left_over r = left_in r.runs r.tasks

abbrev pub finish_of : List ℕ → Play → Play
finish_of b x = played_of (left_over x.run) b x

-- the number of tasks below T that a run has
abbrev pub tasks_in : ℕ → ℕ
tasks_in tasks = min tasks max_tasks

abbrev pub is_done : Run → ℕ → Bool
is_done r t = not (has_left r t)

abbrev pub finished_of : Run → Bool
finished_of r = all_from (is_done r) 0 (tasks_in r.tasks)
