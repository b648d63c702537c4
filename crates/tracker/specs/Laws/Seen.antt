-- Laws of Seen. A task that has seen a cell's share reads the cell by row 3 until somebody writes it: Seen never falls, and a cell
-- that is only read stays in its share. After row 5 or 6 its task has seen every share made so far (document 02, F-1).
use Rattle.std.specs.Prelude.{◌≡◌, ℕ, ◌≤◌, ◌<◌}
use Rattle.std.proofs.Common.{◌∙◌}
use Rattle.std.proofs.Math.Decide.{ℕ_discrete}
use Rattle.tracker.specs.State.{seen_of, locality_of}
use Rattle.tracker.specs.declared.Locality.TheVariants.{ReadShared}
use Rattle.tracker.specs.declared.Row.{Row}
use Rattle.tracker.specs.declared.Row.TheVariants.{Five, Six}
use Rattle.tracker.specs.declared.State.{State}

-- the cell is in a share that the task has seen
pub record Sees (s : State) (task cell : ℕ) : Type 0 where
  pub share : ℕ
  pub shared : locality_of s cell ≡ ReadShared share
  pub seen : share ≤ seen_of s task

-- the rows that set Seen to G
pub data Newest : Row → Type 0 where
  newest_five : Newest Five
  newest_six : Newest Six
