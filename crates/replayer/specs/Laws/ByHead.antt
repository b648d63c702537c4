-- What opening answers if the memory has N entries by the head alone: the bytes are refused, with the reader's number and offset, or they read
-- as a recording, and the replay is at its start. 3 cannot come.
use Rattle.codec.specs.Reason.{number_of}
use Rattle.std.specs.Prelude.{Err, Ok, ◌≡◌, List, ℕ}
use Rattle.codec.specs.Number.{ByReader}
use Rattle.entries.specs.declared.Refusal.{Refusal}
use Rattle.reader.specs.Parse.{Parsed, parse}
use Rattle.replayer.specs.declared.Opened.{Opened}
use Rattle.replayer.specs.OpenOf.{opened_run}

-- the answer, and the memory after the call
pub data Opening (b : List ℕ) (o : Opened) (m : List ℕ) : Type 0 where
  away : (c : Refusal) → parse b ≡ Err c → o.number ≡ (number_of c.reason) → o.offset ≡ c.offset → ByReader (number_of c.reason) → Opening b o m
  found : (p : Parsed) → parse b ≡ Ok p → o.number ≡ 0 → o.run ≡ opened_run p → m ≡ p.recording.values → Opening b o m
