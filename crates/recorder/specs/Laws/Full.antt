-- Laws of `Full`.
use Rattle.std.specs.Prelude.{◌≡◌, [], ◌∷◌, ℕ, ◌+◌, ◌≤◌, ◌<◌}
use Rattle.std.proofs.Common.{◌∙◌}
use lib.ListN.{length}
use Rattle.tracker.specs.Laws.Facts.{Sound}
use Rattle.tracker.specs.Laws.State.{Shaped}
use Rattle.tracker.specs.State.{cell_count, done_of}
use Rattle.recorder.specs.WholeRun.{Box}

-- one task and one object of one field, n accesses made
pub record Stands (b : Box) (n : ℕ) : Type 0 where
  pub sound : Sound b.state
  pub shaped : Shaped b.state
  pub tasks : b.state.tasks ≡ 1
  pub cells : cell_count b.state ≡ 1
  pub memory : length b.memory ≡ 1
  pub done : done_of b.state 0 ≡ n
