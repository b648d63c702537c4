-- Runs on the bench that concern rows and orderings (document 01, "Runs on the bench", marked P), computed from the table.
use Rattle.std.specs.Prelude.{Bool, true, false, List, [], ◌∷◌, ◌≡◌, ℕ}
use Rattle.codec.specs.declared.Position.{Position}
use Rattle.tracker.specs.State.{position}
use Rattle.tracker.specs.Row.{row_at, number_of}
use Rattle.tracker.specs.Orderings.{written_of}
use Rattle.tracker.specs.Next.{state_after}
use Rattle.tracker.specs.Opened.{opened_state}
use Rattle.tracker.specs.declared.State.{State}

-- an access that is accepted; the value of a read makes no difference
pub record Access : Type 0 where
  pub task : ℕ
  pub object : ℕ
  pub write : Bool
  pub value : ℕ

abbrev pub reads : ℕ → ℕ → Access
reads task object = record { task = task; object = object; write = false; value = 0 }

abbrev pub writes : ℕ → ℕ → ℕ → Access
writes task object value = record { task = task; object = object; write = true; value = value }

-- an access's row and the orderings it writes
pub record Tracked : Type 0 where
  pub row : ℕ
  pub orderings : List Position

abbrev pub tracked : ℕ → List Position → Tracked
tracked row orderings = record { row = row; orderings = orderings }

-- the accesses one after another, each from the state that `next` gives for the one before
unfoldable pub tracked_by : (State → ℕ → ℕ → Bool → State) → State → List Access → List Tracked
tracked_by next s [] = []
tracked_by next s (a ∷ rest) =
    tracked (number_of (row_at s a.task a.object a.write)) (written_of s a.task a.object a.write)
    ∷ tracked_by next (next s a.task a.object a.write) rest

-- by the table
abbrev pub tracked_all : State → List Access → List Tracked
tracked_all s accesses = tracked_by state_after s accesses

-- two objects, both owned by task 0
abbrev pub opened : ℕ → State
opened tasks = opened_state tasks 2 0 (0 ∷ 0 ∷ [])

pub record Rows : Type 0 where
  -- run A
  pub a : tracked_all (opened 2) (writes 0 0 7 ∷ reads 1 0 ∷ reads 0 0 ∷ writes 1 0 9 ∷ [])
      ≡ tracked 1 [] ∷ tracked 8 (position 0 1 ∷ []) ∷ tracked 5 (position 1 1 ∷ []) ∷ tracked 10 (position 0 2 ∷ []) ∷ []
  -- A's first three with T = 3, then task 2 reads object 0 twice
  pub fence : tracked_all (opened 3) (writes 0 0 7 ∷ reads 1 0 ∷ reads 0 0 ∷ reads 2 0 ∷ reads 2 0 ∷ [])
      ≡ tracked 1 [] ∷ tracked 8 (position 0 1 ∷ []) ∷ tracked 5 (position 1 1 ∷ []) ∷ tracked 6 (position 0 2 ∷ []) ∷ tracked 3 [] ∷ []
  -- T = 4: task 3 is ordered after the second share through Last, and so after the first
  pub four : tracked_all (opened 4) (reads 1 0 ∷ reads 2 0 ∷ reads 1 1 ∷ reads 3 1 ∷ reads 3 0 ∷ [])
      ≡ tracked 8 [] ∷ tracked 5 (position 1 1 ∷ []) ∷ tracked 8 [] ∷ tracked 5 (position 1 2 ∷ position 2 1 ∷ []) ∷ tracked 3 [] ∷ []
  -- Took and Done differ at row 5: task 1 has made two accesses, and only the first one took the object
  pub took : tracked_all (opened 3) (reads 1 0 ∷ reads 1 0 ∷ reads 2 0 ∷ []) ≡ tracked 8 [] ∷ tracked 2 [] ∷ tracked 5 (position 1 1 ∷ []) ∷ []
