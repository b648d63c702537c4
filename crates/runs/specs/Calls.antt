-- The runs on the bench that concern the recorder (document 01, "Runs on the bench", marked P), by computation.
use Rattle.std.specs.Prelude.{Ok, ◌≡◌, List, [], ◌∷◌, ◌++◌, ℕ, length, replicate}
use Rattle.codec.specs.Encode.{access}
use Rattle.reader.specs.Parse.{parse}
use Rattle.reader.specs.Calls.{checked_of}
use Rattle.opening.specs.OpenOf.{OpenOutcome, open_of}
use Rattle.recorder.specs.WholeRun.{Call, Box, outcome, called_all, packed}

-- an opening of two objects owned by task 0, with starting values 0 and enough output
abbrev opening : ℕ → OpenOutcome
opening tasks = open_of tasks 2 (0 ∷ 0 ∷ []) (0 ∷ 0 ∷ []) (1 ∷ 1 ∷ []) (replicate 18 0)

abbrev pub opened-box : ℕ → Box
opened-box tasks = record { state = (opening tasks).answer.state; memory = (opening tasks).memory; logs = λ t. [] }

abbrev reads : ℕ → ℕ → Call
reads task object = Call.access (record { task = task; object = object; field = 0; sort = 0; value = 0; out = replicate 40 0 })

abbrev writes : ℕ → ℕ → ℕ → Call
writes task object value = Call.access (record { task = task; object = object; field = 0; sort = 1; value = value; out = replicate 40 0 })

-- run A: T = 2; task 0 writes 7, task 1 reads it, task 0 reads it, task 1 writes 9
abbrev run-a : List Call
run-a = writes 0 0 7 ∷ reads 1 0 ∷ reads 0 0 ∷ writes 1 0 9 ∷ []

abbrev box-a : Box
box-a = called_all (opened-box 2) run-a

abbrev recording-a : List ℕ
recording-a = (opening 2).out ++ packed box-a.state box-a.logs (λ t. replicate 48 0) 0 2

-- a write by row 1 with an output of n bytes
abbrev row_one : ℕ → Box → ℕ
row_one n b = (outcome b (record { task = 0; object = 0; field = 0; sort = 1; value = 7; out = replicate n 0 })).answer.number

pub record Calls : Type 0 where
  -- run A: bodies of 28 and 36 bytes, a recording of 106 bytes, which the reader accepts; memory 9 and 0. Document 01's sizes are those
  -- with kind 4 (`Kinds`)
  pub a_body_0 : length (box-a.logs 0) ≡ 28
  pub a_body_1 : length (box-a.logs 1) ≡ 36
  pub a_recording : length recording-a ≡ 106
  pub a_taken : checked_of (parse recording-a) ≡ Ok tt
  pub a_memory : box-a.memory ≡ 9 ∷ 0 ∷ []
  -- T = 0 and 17 give 1; 16 is accepted; N = 257 gives 2
  pub no_tasks : (opening 0).answer.number ≡ 1
  pub many_tasks : (opening 17).answer.number ≡ 1
  pub sixteen : (opening 16).answer.number ≡ 0
  pub many_objects : (open_of 1 257 [] [] [] []).answer.number ≡ 2
  -- a write by row 1 with 9 bytes of output gives 9; with 10 it is accepted
  pub nine_bytes : row_one 9 (opened-box 2) ≡ 9
  pub ten_bytes : row_one 10 (opened-box 2) ≡ 0
