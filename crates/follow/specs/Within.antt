-- The place that two depots name (document 02, F-4): a count of accesses for each task. Without counts there is no such place.
use Rattle.std.specs.Prelude.{Bool, ◌&&◌, List, [], ◌∷◌, ℕ, min, leb, ltb, length, get_or}
use Rattle.pending.specs.declared.Run.{Run}
use Rattle.pending.specs.declared.TaskRun.{TaskRun}
use Rattle.pending.specs.All.{all_from}
use Rattle.pending.specs.Run.{done_of}

-- a task is there if it has done as many accesses as its count
unfoldable pub is_there : List ℕ → Run → ℕ → Bool
is_there counts r t = ltb t (length counts) && leb (get_or counts t 0) (done_of r.runs t)

-- all tasks that have a count are there
unfoldable pub all_there : List ℕ → Run → Bool
all_there counts r = ltb 0 (length counts) && all_from (is_there counts r) 0 (length counts)

-- a task that has no accesses beyond a count, and tasks each by its own
abbrev pub held_by : TaskRun → ℕ → TaskRun
held_by x count = record { place = x.place; end = x.end; done = x.done; count = min x.count count }

unfoldable pub held_to : List ℕ → List TaskRun → List TaskRun
held_to [] xs = xs
held_to (c ∷ cs) [] = []
held_to (c ∷ cs) (x ∷ xs) = held_by x c ∷ held_to cs xs

-- the run with them: its ready tasks are those that are ready and not there
abbrev pub run_within : List ℕ → Run → Run
run_within counts r = record { tasks = r.tasks; objects = r.objects; fields = r.fields; runs = held_to counts r.runs }
