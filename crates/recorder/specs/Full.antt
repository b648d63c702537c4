-- The run on the bench with 65,535 accesses (document 01, marked P): access 65,535 is accepted, the next gives 8. Both follow from a law
-- about lists of calls, since computing that many would take too long.
use Rattle.std.specs.Prelude.{◌≡◌, [], ◌∷◌, replicate}
use Rattle.opening.specs.OpenOf.{OpenOutcome, open_of}
use Rattle.recorder.specs.WholeRun.{AccessCall, Call, Box, outcome, called_all}

-- task 0 reads object 0
abbrev pub again : AccessCall
again = record { task = 0; object = 0; field = 0; sort = 0; value = 0; out = replicate 140 0 }

-- an opening with one task and one object, and the box after it
abbrev pub opening : OpenOutcome
opening = open_of 1 1 (0 ∷ []) (0 ∷ []) (0 ∷ []) (replicate 13 0)

abbrev pub first : Box
first = record { state = opening.answer.state; memory = opening.memory; logs = λ t. [] }

pub record Full : Type 0 where
  pub opening_taken : opening.answer.number ≡ 0
  pub last_taken : (outcome (called_all first (replicate 65534 (Call.access again))) again).answer.number ≡ 0
  pub next_eight : (outcome (called_all first (replicate 65535 (Call.access again))) again).answer.number ≡ 8
