-- With one field per object the same calls get what they got under the old opening: two states that differ in the number of fields alone, 0
-- and 1, and boxes that have them stay beside each other.
use Rattle.std.specs.Prelude.{List, [], ◌∷◌, ◌++◌, ◌≡◌, ℕ, ◌≤◌, ◌<◌, length}
use Rattle.std.proofs.Common.{◌∙◌}
use Rattle.std.proofs.Math.Decide.{ℕ_discrete}
use Rattle.tracker.specs.declared.State.{State}
use Rattle.recorder.specs.AccessOf.{is_write, checked, accepted, refused, access_of, AccessOutcome}
use Rattle.recorder.specs.WholeRun.{Box}

-- a state with another number of fields
abbrev pub under : ℕ → State → State
under f t = record {
  tasks = t.tasks;
  objects = t.objects;
  fields = f;
  cells = t.cells;
  done = t.done;
  seen = t.seen;
  took = t.took;
  shares = t.shares;
  last = t.last;
}

-- an access that does not lack output: refused by a check, or accepted
pub data Goes (s : State) (task object field sort value : ℕ) (memory out : List ℕ) : Type 0 where
  stays : (n : ℕ) → n ≡ checked s task object field sort (length memory) 0 → (n ≡ 0 → ⊥)
      → access_of s task object field sort value memory out ≡ refused n s memory out → Goes s task object field sort value memory out
  takes : checked s task object field sort (length memory) 0 ≡ 0
      → access_of s task object field sort value memory out ≡ accepted s task object field (is_write sort) value memory out → Goes s task object field sort value memory out

-- one access on both states
pub record Pair (x y : AccessOutcome) : Type 0 where
  pub number : x.answer.number ≡ y.answer.number
  pub value : x.answer.value ≡ y.answer.value
  pub row : x.answer.row ≡ y.answer.row
  pub class : x.answer.class ≡ y.answer.class
  pub base : State
  pub old : x.answer.state ≡ under 0 base
  pub new : y.answer.state ≡ under 1 base
  pub memory : y.memory ≡ x.memory

-- two boxes that differ in the number of fields alone; the bytes of their logs differ
pub record Beside (b c : Box) : Type 0 where
  pub base : State
  pub old : b.state ≡ under 0 base
  pub new : c.state ≡ under 1 base
  pub memory : c.memory ≡ b.memory
