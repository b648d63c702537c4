-- Runs with fields inside an object (document 02, F-6), by computation.
use Rattle.std.specs.Prelude.{Ok, ◌≡◌, List, [], ◌∷◌, ◌++◌, ℕ, length, replicate}
use Rattle.codec.specs.Cell.{cell_of}
use Rattle.opening.specs.OpenOf.{OpenOutcome, open_fields_of}
use Rattle.reader.specs.Calls.{checked_of}
use Rattle.reader.specs.Parse.{parse}
use Rattle.recorder.specs.WholeRun.{Call, Box, outcome, called_all, packed}
use Rattle.tracker.specs.Opened.{opened_state}
use Rattle.tracker.specs.State.{position}
use Rattle.runs.specs.Calls.{opened-box}
use Rattle.runs.specs.Rows.{Tracked, tracked, tracked_all, reads, writes}

-- one object, owned by task 1, with this number of fields: task 0 writes field 0, and task 1 reads a field
abbrev pair : ℕ → ℕ → List Tracked
pair fields field = tracked_all (opened_state 2 1 fields (1 ∷ [])) (writes 0 (cell_of fields 0 0) 7 ∷ reads 1 (cell_of fields 0 field) ∷ [])

-- the same with two fields by calls
abbrev opening : OpenOutcome
opening = open_fields_of 2 1 2 (1 ∷ []) (0 ∷ 5 ∷ []) (1 ∷ 1 ∷ []) (replicate 19 0)

abbrev call : ℕ → ℕ → ℕ → Call
call task field sort = Call.access (record { task = task; object = 0; field = field; sort = sort; value = 7; out = replicate 40 0 })

abbrev box : Box
box = called_all (record { state = opening.answer.state; memory = opening.memory; logs = λ t. [] }) (call 0 0 1 ∷ call 1 1 0 ∷ [])

abbrev recording : List ℕ
recording = opening.out ++ packed box.state box.logs (λ t. replicate 24 0) 0 2

-- an opening with empty lists, buffers and output
abbrev number_of : ℕ → ℕ → ℕ → ℕ
number_of tasks objects fields = (open_fields_of tasks objects fields [] [] [] []).answer.number

-- an access under the old opening of two objects
abbrev old_number : ℕ → ℕ → ℕ → ℕ
old_number object field sort = (outcome (opened-box 2) (record { task = 0; object = object; field = field; sort = sort; value = 7; out = replicate 40 0 })).answer.number

pub record Fields : Type 0 where
  -- F = 2: field 1 is still task 1's, so its read takes row 1 and has no ordering
  pub apart : pair 2 1 ≡ tracked 7 [] ∷ tracked 1 [] ∷ []
  -- under the old opening the object is one cell, and the read is ordered after the write
  pub together : pair 0 0 ≡ tracked 7 [] ∷ tracked 8 (position 0 1 ∷ []) ∷ []
  -- F = 2 by calls: a head of 19 bytes, two bodies of 12, which the reader accepts; only field 0 has changed
  pub body_0 : length (box.logs 0) ≡ 12
  pub body_1 : length (box.logs 1) ≡ 12
  pub size : length recording ≡ 67
  pub taken : checked_of (parse recording) ≡ Ok tt
  pub memory : box.memory ≡ 7 ∷ 5 ∷ []
  -- F = 0 and 9 give 20, after 1 and 2 and before 3
  pub no_fields : number_of 1 1 0 ≡ 20
  pub nine_fields : number_of 1 1 9 ≡ 20
  pub eight_fields : number_of 1 1 8 ≡ 3
  pub tasks_first : number_of 17 257 9 ≡ 1
  pub objects_first : number_of 1 257 9 ≡ 2
  -- a field other than 0 under the old opening gives 20, after 6 and before 7
  pub old_field : old_number 0 1 0 ≡ 20
  pub object_first : old_number 2 1 0 ≡ 6
  pub sort_after : old_number 0 1 2 ≡ 20
