-- A run as 67 numbers: T, N and the number of fields, then for each task its place, end, done and count.
use Rattle.std.specs.Prelude.{List, [], ◌∷◌, ◌++◌, ℕ, zero, suc, ◌+◌, ◌*◌, get_or}
use Rattle.codec.specs.Limit.{max_tasks}
use Rattle.pending.specs.declared.TaskRun.{TaskRun}
use Rattle.pending.specs.declared.Run.{Run}
use Rattle.pending.specs.Run.{task_at}
use Rattle.pending.specs.Each.{each}

-- the run that an array stands for
abbrev pub task_in : List ℕ → ℕ → TaskRun
task_in places t = record {
  place = get_or places (3 + 4 * t) 0;
  end = get_or places (4 + 4 * t) 0;
  done = get_or places (5 + 4 * t) 0;
  count = get_or places (6 + 4 * t) 0;
}

abbrev pub run_in : List ℕ → Run
run_in places = record { tasks = get_or places 0 0; objects = get_or places 1 0; fields = get_or places 2 0; runs = each (task_in places) max_tasks }

-- the numbers that a run is stored as: those of one task, of the first n tasks, and of the run
abbrev pub task_places : TaskRun → List ℕ
task_places x = x.place ∷ x.end ∷ x.done ∷ x.count ∷ []

unfoldable pub first_places : List TaskRun → ℕ → List ℕ
first_places runs zero = []
first_places runs (suc n) = first_places runs n ++ task_places (task_at runs n)

abbrev pub places_of : Run → List ℕ
places_of r = r.tasks ∷ r.objects ∷ r.fields ∷ first_places r.runs max_tasks
