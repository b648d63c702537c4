-- The runs on the bench that concern bytes alone (document 01, "Runs on the bench", marked P), by computation.
use Rattle.std.specs.Prelude.{Ok, Err, false, ◌≡◌, List, ℕ, [], ◌∷◌, ◌++◌, length, take}
use Rattle.codec.specs.declared.number.Reason.{Reason}
use Rattle.codec.specs.declared.number.Reason.TheVariants.{Short, Misplaced, Range}
use Rattle.codec.specs.Reason.{number_of}
use Rattle.codec.specs.Encode.{op_of}
use Rattle.entries.specs.Reading.{stop}
use Rattle.entries.specs.Recording.{Recording}
use Rattle.entries.specs.Bytes.{bytes_of}
use Rattle.reader.specs.Parse.{parse}
use Rattle.reader.specs.Calls.{checked_of}

-- one task, one object, no access
abbrev smallest : Recording
smallest = record { tasks = 1; fields = 0; owners = 0 ∷ []; values = 0 ∷ []; bodies = [] ∷ [] }

-- an ordering with source number 0
abbrev zeroth : Recording
zeroth = record { tasks = 2; fields = 0; owners = 0 ∷ []; values = 0 ∷ []; bodies = (record { orderings = record { task = 1; number = 0 } ∷ []; op = op_of 0 false 0 0 0 } ∷ []) ∷ [] ∷ [] }

-- bytes are refused for a reason, at an offset, and this is the reason's number
abbrev Refused : List ℕ → Reason → ℕ → ℕ → Type 0
Refused b reason number offset = (checked_of (parse b) ≡ Err (stop reason offset)) × (number_of reason ≡ number)

pub record Bytes : Type 0 where
  pub none : Refused [] Short 10 0
  pub size : length (bytes_of smallest) ≡ 25
  pub whole : checked_of (parse (bytes_of smallest)) ≡ Ok tt
  pub cut : Refused (take 24 (bytes_of smallest)) Short 10 13
  pub longer : Refused (bytes_of smallest ++ (0 ∷ [])) Misplaced 12 25
  pub from_zero : Refused (bytes_of zeroth) Range 13 25
