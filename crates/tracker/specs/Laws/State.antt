-- Laws of `State`.
use Rattle.std.specs.Prelude.{◌≡◌, length}
use Rattle.codec.specs.Limit.{max_tasks, max_cells}
use Rattle.tracker.specs.declared.State.{State}

-- the lists' lengths, which are fixed by the state's type
pub record Shaped (s : State) : Type 0 where
  pub cells : length s.cells ≡ max_cells
  pub done : length s.done ≡ max_tasks
  pub seen : length s.seen ≡ max_tasks
  pub took : length s.took ≡ max_tasks
