-- The table row by row (document 01, "Transition table"): the access comes after every earlier one it conflicts with, and its cell
-- stays covered. The other cells are in Moves.
use Rattle.std.specs.Prelude.{Bool, ◌≡◌, ℕ, ◌+◌, ◌<◌}
use Rattle.std.proofs.Math.Bool.{true, false}
use mathlib.Core.List.{◌∷◌}
use Rattle.std.proofs.Math.Decide.{ℕ_discrete}
use Rattle.history.specs.Entry.{Act, Entry, touches, writes}
use Rattle.history.specs.History.{History}
use Rattle.history.specs.Laws.Sound.{Follows}
use Rattle.tracker.specs.Laws.Covered.{Covered}
use Rattle.tracker.specs.Laws.Moves.{Moves}
use Rattle.tracker.specs.declared.Locality.{Locality}
use Rattle.tracker.specs.declared.State.{State}

-- what an access to a cell conflicts with: a write with every access to it, a read with its writes
abbrev pub conflicting : Bool → ℕ → Act → Bool
conflicting true cell = touches cell
conflicting false cell = writes cell

-- what is proved for each row; `l` is the cell's new state
pub record RowKeeps (e : Entry) (h : History) (s after : State) (cell : ℕ) (write : Bool) (l : Locality) : Type 0 where
  pub follows : Follows e h (conflicting write cell)
  pub moves : Moves e h s after
  pub covered : Covered (e ∷ h) after cell l
