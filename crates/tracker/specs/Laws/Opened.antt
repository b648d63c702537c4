-- Laws of `Opened`.
use Rattle.std.specs.Prelude.{List, ◌≡◌, get_or}
use Rattle.std.proofs.Math.Logic.{⊎_elim}
use Rattle.std.proofs.Common.{◌∙◌}
use Prim.Native.Nat.{ℕ, ◌+◌, ◌≤◌, ◌<◌}
use Rattle.codec.specs.Limit.{max_tasks, max_objects, max_fields}
use Rattle.tracker.specs.State.{done_of, cell_count, locality_of, holder_of}
use Rattle.tracker.specs.Laws.State.{Shaped}
use Rattle.tracker.specs.Laws.Facts.{Sound}
use Rattle.tracker.specs.declared.Locality.TheVariants.{WriteExclusive}
use Rattle.tracker.specs.declared.State.{State}

-- what the number table requires of an opening: 1, 2, 20 and 4
pub record Opens (tasks objects fields : ℕ) (owners : List ℕ) : Type 0 where
  pub some_task : 1 ≤ tasks
  pub tasks_fit : tasks ≤ max_tasks
  pub some_object : 1 ≤ objects
  pub objects_fit : objects ≤ max_objects
  pub fields_fit : fields ≤ max_fields
  pub owners_low : (object : ℕ) → object < objects → get_or owners object 0 < tasks

-- a state in which nothing has been done yet: each cell is held by one task, for writing
pub record Fresh (s : State) : Type 0 where
  pub shaped : Shaped s
  pub sound : Sound s
  pub none_done : (task : ℕ) → done_of s task ≡ 0
  pub held : (cell : ℕ) → cell < cell_count s → locality_of s cell ≡ WriteExclusive (holder_of (locality_of s cell))
