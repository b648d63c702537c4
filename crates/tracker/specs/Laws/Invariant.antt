-- What holds for a recording state and the history that led to it (document 01, "Tasks, objects, positions"): the state is sound, Done
-- counts the entries, and each cell is covered as its state says.
use Rattle.std.specs.Prelude.{◌≡◌, ℕ, ◌<◌}
use Rattle.history.specs.Entry.{Entry}
use Rattle.history.specs.History.{History, count, At}
use Rattle.tracker.specs.State.{done_of, cell_count, locality_of}
use Rattle.tracker.specs.Laws.State.{Shaped}
use Rattle.tracker.specs.Laws.Facts.{Sound}
use Rattle.tracker.specs.Laws.Covered.{Covered}
use Rattle.tracker.specs.declared.State.{State}

pub record Invariant (s : State) (h : History) : Type 0 where
  pub shaped : Shaped s
  pub sound : Sound s
  pub counts : (task : ℕ) → done_of s task ≡ count task h
  -- only tasks below T have made accesses
  pub tasks_low : {e : Entry} {g : History} → At e g h → e.task < s.tasks
  pub covered : (cell : ℕ) → cell < cell_count s → Covered h s cell (locality_of s cell)
