-- An accepted access keeps a sound state sound.
use Rattle.std.specs.Prelude.{◌≡◌, ℕ, ◌+◌, ◌≤◌, ◌<◌, set}
use Rattle.codec.specs.Limit.{max_accesses}
use Rattle.tracker.specs.State.{done_of, cell_count}
use Rattle.tracker.specs.Next.{Effect, number_now}
use Rattle.tracker.specs.Laws.Facts.{LastBounds, CellBounds}
use Rattle.tracker.specs.declared.Locality.{Locality}
use Rattle.tracker.specs.declared.State.{State}

-- what the number table requires of an access besides a sound state: 5, 6 and 8
pub record Accepts (s : State) (task cell : ℕ) : Type 0 where
  pub task_low : task < s.tasks
  pub cell_low : cell < cell_count s
  pub more : done_of s task < max_accesses

-- what a row has to keep
pub record Keeps (s : State) (task : ℕ) (l : Locality) (e : Effect) : Type 0 where
  pub rises : s.shares ≤ e.shares
  pub by_one : e.shares ≤ s.shares + 1
  pub seen : e.seen ≤ e.shares
  pub took : e.took ≤ number_now s task
  pub last : LastBounds e.last s.tasks e.shares (set s.done task (number_now s task))
  pub cell : CellBounds l s.tasks e.shares
