-- THE TABLE of the runs on the bench that are marked P (document 01, "Runs on the bench") and of those with fields, and one theorem for all of it.
use Rattle.recorder.specs.Full.{Full}
use Rattle.runs.specs.Rows.{Rows}
use Rattle.runs.specs.Calls.{Calls}
use Rattle.runs.specs.Bytes.{Bytes}
use Rattle.runs.specs.Kinds.{Kinds}
use Rattle.runs.specs.Fields.{Fields}
use Rattle.runs.specs.Whole.{Whole}

pub record Table : Type 0 where
  -- rows and orderings: run A; with T = 3 and row 6; the run of four tasks
  pub row_runs : Rows
  -- calls of the recorder: run A's bodies and recording; T, N and output at their limits
  pub call_runs : Calls
  -- access 65,535 and the next
  pub full_runs : Full
  -- bytes: none; the smallest recording, cut and longer; an ordering from number 0
  pub byte_runs : Bytes
  -- run A by document 01's sizes, with kind 4; with kind 6; and with a changed value
  pub kind_runs : Kinds
  -- run A end to end: its ready words, and its replay
  pub whole_run : Whole
  -- fields inside an object (document 02, F-6): two fields with a state each, and the number 20
  pub field_runs : Fields
