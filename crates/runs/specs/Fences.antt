-- One run by two rules for row 6: document 01's, which set Seen(T2) to the object's share, and document 02's, F-1. The earlier rule fences
-- twice, the present one once.
use Rattle.std.specs.Prelude.{Bool, cond, List, [], ◌∷◌, ◌++◌, ◌≡◌, ℕ, eqb, set}
use Rattle.tracker.specs.State.{share_of, locality_of, position}
use Rattle.tracker.specs.Row.{row_at, number_of}
use Rattle.tracker.specs.Next.{state_after}
use Rattle.tracker.specs.declared.State.{State}
use Rattle.runs.specs.Rows.{Access, reads, Tracked, tracked, tracked_by, tracked_all, opened}

-- a state with other numbers for Seen
abbrev with_seen : State → List ℕ → State
with_seen s seen = record {
  tasks = s.tasks;
  objects = s.objects;
  fields = s.fields;
  cells = s.cells;
  done = s.done;
  seen = seen;
  took = s.took;
  shares = s.shares;
  last = s.last;
}

-- the state after an access by document 01's table, which differs at row 6 alone
unfoldable pub earlier_after : State → ℕ → ℕ → Bool → State
earlier_after s task object write =
    cond (eqb (number_of (row_at s task object write)) 6)
    (with_seen (state_after s task object write) (set s.seen task (share_of (locality_of s object))))
    (state_after s task object write)

-- tasks 1 and 0 share object 0 and then object 1; task 2 reads both
abbrev run : List Access
run = reads 1 0 ∷ reads 0 0 ∷ reads 1 1 ∷ reads 0 1 ∷ reads 2 0 ∷ reads 2 1 ∷ []

abbrev shares : List Tracked
shares = tracked 8 [] ∷ tracked 5 (position 1 1 ∷ []) ∷ tracked 8 (position 0 1 ∷ []) ∷ tracked 5 (position 1 2 ∷ []) ∷ []

pub record Fences : Type 0 where
  pub earlier : tracked_by earlier_after (opened 3) run ≡ shares ++ (tracked 6 (position 0 2 ∷ []) ∷ tracked 6 (position 0 2 ∷ []) ∷ [])
  pub now : tracked_all (opened 3) run ≡ shares ++ (tracked 6 (position 0 2 ∷ []) ∷ tracked 3 [] ∷ [])
