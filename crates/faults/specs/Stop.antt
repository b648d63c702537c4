-- Where the reading of a line stops: at the first word that is not as expected, or at the line's end.
use Rattle.std.specs.Prelude.{◌≡◌, Bool, cond, List, [], ◌∷◌, ℕ, ◌+◌, ◌<◌, length, Option, Some, None}
use denote.Ref.{Bor}
use Rattle.lines.specs.Fields.{field_of}
use Rattle.faults.specs.declared.expected.Expected.{Expected}
use Rattle.faults.specs.declared.stop.Stopped.{Stopped}
use Rattle.faults.specs.Expected.{fits_as, next_of}

-- what was expected there, how many words were as expected before it, and the word found, which is empty at the line's end
pub record Stop : Type 0 where
  pub expected : Expected
  pub words : ℕ
  pub word : List ℕ

-- with these words left, after a number of words that were as expected; given whether lines name a field
unfoldable pub stop_of : Bool → Expected → ℕ → List (List ℕ) → Stop
stop_of named e k [] = record { expected = e; words = k; word = [] }
stop_of named e k (w ∷ ws) = cond (fits_as e (field_of w)) (stop_of named (next_of named e (field_of w)) (k + 1) ws) (record { expected = e; words = k; word = w })

-- the word found; none at the line's end
abbrev pub Finds : Stop → Option (Bor (List ℕ)) → Type 0
Finds s (Some word) = (word.now ≡ s.word) × (0 < length s.word)
Finds s None = s.word ≡ []

-- where the reading of a line stopped
pub record Stops (s : Stop) (r : Stopped) : Type 0 where
  pub expected : r.expected ≡ s.expected
  pub words : r.words ≡ s.words
  pub found : Finds s r.found
