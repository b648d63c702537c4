-- When a recording state is sound (document 01, "Number table": "Unsound recording, looking only at tasks below T and objects below N"; with
-- fields (document 02, F-6), at cells below N times F).
use Rattle.std.specs.Prelude.{Bool, cond, ◌&&◌, List, ℕ, eqb, leb, ltb, get_or}
use Rattle.codec.specs.declared.Position.{Position}
use Rattle.tracker.specs.State.{locality_of, cell_count}
use Rattle.codec.specs.Limit.{is_within, max_tasks, max_objects, max_fields, max_accesses}
use Rattle.tracker.specs.Range.{all_below}
use Rattle.tracker.specs.Sum.{sum_of}
use Rattle.tracker.specs.declared.Locality.{Locality}
use Rattle.tracker.specs.declared.Locality.TheVariants.{WriteExclusive, ReadExclusive, ReadShared}
use Rattle.tracker.specs.declared.State.{State}

-- "G above 0 without Last"; for a Last that exists: "any task kept not below T", and "Last beyond that task's Done". A Last with number 0
-- means none, so its task does not count as kept. A Last with G = 0 is not on the list.
unfoldable pub last_sound : Position → ℕ → ℕ → List ℕ → Bool
last_sound last tasks shares done =
    cond (eqb last.number 0) (eqb shares 0) (ltb last.task tasks && leb last.number (get_or done last.task 0))

-- for a task: "Done above 65,535", "any share number above G" for its Seen, "Took beyond its Done"
unfoldable pub task_sound : ℕ → ℕ → ℕ → ℕ → Bool
task_sound done seen took shares = leb done max_accesses && leb seen shares && leb took done

-- for a cell: "any task kept not below T" for its holder, "an object's share number 0", "any share number above G"
unfoldable pub cell_sound : Locality → ℕ → ℕ → Bool
cell_sound (WriteExclusive holder) tasks shares = ltb holder tasks
cell_sound (ReadExclusive holder) tasks shares = ltb holder tasks
cell_sound (ReadShared share) tasks shares = is_within 1 shares share

abbrev pub task_sound_at : List ℕ → List ℕ → List ℕ → ℕ → ℕ → Bool
task_sound_at done seen took shares i = task_sound (get_or done i 0) (get_or seen i 0) (get_or took i 0) shares

-- every task, and "G above the sum of Done"
unfoldable pub tasks_sound : ℕ → ℕ → List ℕ → List ℕ → List ℕ → Bool
tasks_sound tasks shares done seen took = all_below (task_sound_at done seen took shares) tasks && leb shares (sum_of done tasks)

abbrev pub cell_sound_at : State → ℕ → Bool
cell_sound_at s i = cell_sound (locality_of s i) s.tasks s.shares

-- "T, N out of range", F above 8 (document 02, F-6), and all of the above
unfoldable pub sound_of : State → Bool
sound_of s =
    is_within 1 max_tasks s.tasks && is_within 1 max_objects s.objects && leb s.fields max_fields
    && last_sound s.last s.tasks s.shares s.done
    && tasks_sound s.tasks s.shares s.done s.seen s.took
    && all_below (cell_sound_at s) (cell_count s)
