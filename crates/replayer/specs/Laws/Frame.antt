-- What steps leave alone in a run: T, N, each body's end and count, and all of what is past T. So a run is known by the accesses that are
-- done: two runs after any steps from one run are equal if each task has the same ones left.
use Rattle.std.specs.Prelude.{◌≡◌, List, ℕ, ◌≤◌}
use Rattle.entries.specs.Recording.{Entry}
use Rattle.pending.specs.declared.Run.{Run}
use Rattle.pending.specs.Laws.Moved.{Shaped}
use Rattle.pending.specs.Run.{task_at}
use Rattle.replayer.specs.Laws.Left.{Left}

pub record Frame (from r : Run) : Type 0 where
  pub tasks : r.tasks ≡ from.tasks
  pub objects : r.objects ≡ from.objects
  pub fields : r.fields ≡ from.fields
  pub shaped : Shaped r
  pub ends : (t : ℕ) → (task_at r.runs t).end ≡ (task_at from.runs t).end
  pub counts : (t : ℕ) → (task_at r.runs t).count ≡ (task_at from.runs t).count
  pub past : (t : ℕ) → from.tasks ≤ t → task_at r.runs t ≡ task_at from.runs t

-- a task has the same accesses left in both runs
pub record LeftBoth (r q : Run) (b : List ℕ) (t : ℕ) : Type 0 where
  pub entries : List Entry
  pub one : Left r b t entries
  pub other : Left q b t entries
