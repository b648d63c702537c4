-- Soundness as named facts, and back to the test.
use Rattle.std.specs.Prelude.{◌&&◌, List, ◌≡◌, ℕ, ◌≤◌, ◌<◌, get_or}
use Rattle.codec.specs.declared.Position.{Position}
use Rattle.tracker.specs.State.{done_of, seen_of, took_of, cell_count, locality_of, holder_of, share_of}
use Rattle.codec.specs.Limit.{max_tasks, max_objects, max_fields, max_accesses}
use Rattle.tracker.specs.Sum.{sum_of}
use Rattle.tracker.specs.declared.Locality.{Locality}
use Rattle.tracker.specs.declared.Locality.TheVariants.{ReadShared}
use Rattle.tracker.specs.declared.State.{State}

pub record LastBounds (last : Position) (tasks shares : ℕ) (done : List ℕ) : Type 0 where
  pub placed : last.number ≡ 0 → shares ≡ 0
  pub task_low : 0 < last.number → last.task < tasks
  pub reached : last.number ≤ get_or done last.task 0

pub record TaskBounds (done seen took shares : ℕ) : Type 0 where
  pub done_fits : done ≤ max_accesses
  pub seen_low : seen ≤ shares
  pub took_low : took ≤ done

pub record CellBounds (l : Locality) (tasks shares : ℕ) : Type 0 where
  pub holder_low : holder_of l < tasks
  pub share_low : share_of l ≤ shares
  pub share_some : (share : ℕ) → l ≡ ReadShared share → 1 ≤ share

pub record Sound (s : State) : Type 0 where
  pub some_task : 1 ≤ s.tasks
  pub tasks_fit : s.tasks ≤ max_tasks
  pub some_object : 1 ≤ s.objects
  pub objects_fit : s.objects ≤ max_objects
  pub fields_fit : s.fields ≤ max_fields
  pub last : LastBounds s.last s.tasks s.shares s.done
  pub counted : s.shares ≤ sum_of s.done s.tasks
  pub task : (i : ℕ) → i < s.tasks → TaskBounds (done_of s i) (seen_of s i) (took_of s i) s.shares
  pub cell : (c : ℕ) → c < cell_count s → CellBounds (locality_of s c) s.tasks s.shares
