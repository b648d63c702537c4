-- F-6, one field per object (document 02): the same calls, each with output enough, get under the opening with F = 1 what they got under the
-- old opening: numbers, values, rows, classes and orderings. The bytes differ by the kinds. No proof is in this file.
use Rattle.std.specs.Prelude.{List, [], ◌∷◌, ◌≡◌, ℕ}
use Rattle.codec.specs.Number.{no_room}
use Rattle.recorder.specs.WholeRun.{AccessCall, Call, Box, outcome, left_by}
use Rattle.fidelity.specs.Box.{Opening, Asked, calls_of, first_box, last_box, recorded}

-- an old opening and one with F = 1: equal arguments, but for the lent memory and output
pub record OneField (old new : Opening) : Type 0 where
  pub no_fields : old.fields ≡ 0
  pub one_field : new.fields ≡ 1
  pub tasks : new.tasks ≡ old.tasks
  pub objects : new.objects ≡ old.objects
  pub owners : new.owners ≡ old.owners
  pub starts : new.starts ≡ old.starts

-- the same calls; their outputs may differ
pub record SameAccess (c d : AccessCall) : Type 0 where
  pub task : d.task ≡ c.task
  pub object : d.object ≡ c.object
  pub field : d.field ≡ c.field
  pub sort : d.sort ≡ c.sort
  pub value : d.value ≡ c.value

abbrev pub SameCall : Call → Call → Type 0
SameCall (Call.access c) (Call.access d) = SameAccess c d

abbrev pub SameCalls : List Call → List Call → Type 0
SameCalls [] [] = Unit {0}
SameCalls [] (d ∷ others) = ⊥
SameCalls (c ∷ calls) [] = ⊥
SameCalls (c ∷ calls) (d ∷ others) = SameCall c d × SameCalls calls others

-- no call lacks output
abbrev pub HasRoom : Box → Call → Type 0
HasRoom b (Call.access c) = (outcome b c).answer.number ≡ no_room → ⊥

unfoldable pub Enough : Box → List Call → Type 0
Enough b [] = Unit {0}
Enough b (c ∷ calls) = HasRoom b c × Enough (left_by b c) calls

-- what a call answers, but for the number of bytes and the state
pub record Told : Type 0 where
  pub number : ℕ
  pub value : ℕ
  pub row : ℕ
  pub class : ℕ

abbrev pub told_by : Box → Call → Told
told_by b (Call.access c) =
    let a = (outcome b c).answer in
    record { number = a.number; value = a.value; row = a.row; class = a.class }

unfoldable pub told_from : Box → List Call → List Told
told_from b [] = []
told_from b (c ∷ calls) = told_by b c ∷ told_from (left_by b c) calls

pub record SameRun (old new : Opening) (asked others : List Asked) : Type 0 where
  -- 1. Each call answers the same number, value, row and class.
  pub answers : told_from (first_box old) (calls_of asked) ≡ told_from (first_box new) (calls_of others)
  -- 2. The same accesses are accepted, in the same order, each with the same orderings.
  pub accesses : recorded old asked ≡ recorded new others
  -- 3. The memory is the same.
  pub memory : (last_box old asked).memory ≡ (last_box new others).memory
