-- When a run is sound (document 01, "Number table": "Unsound run: T, N or a later limit out of range, done above its section's
-- count, place beyond end, end beyond the bytes"), looking only at tasks below T.
use Rattle.std.specs.Prelude.{Bool, ◌&&◌, ℕ, leb}
use Rattle.codec.specs.Limit.{max_tasks, max_objects, max_fields, is_within}
use Rattle.pending.specs.declared.TaskRun.{TaskRun}
use Rattle.pending.specs.declared.Run.{Run}
use Rattle.pending.specs.All.{all_from}
use Rattle.pending.specs.Run.{task_at}

-- for one task; the recording has `size` bytes
unfoldable pub task_sound : ℕ → TaskRun → Bool
task_sound size x = leb x.done x.count && (leb x.place x.end && leb x.end size)

abbrev pub task_sound_at : Run → ℕ → ℕ → Bool
task_sound_at r size t = task_sound size (task_at r.runs t)

unfoldable pub sound_of : Run → ℕ → Bool
sound_of r size = is_within 1 max_tasks r.tasks && (is_within 1 max_objects r.objects && (leb r.fields max_fields && all_from (task_sound_at r size) 0 r.tasks))
