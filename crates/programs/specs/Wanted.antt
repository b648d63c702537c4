-- The access that a line of a text wants, and the one that a call asks for.
use Rattle.std.specs.Prelude.{Bool, ℕ, Option, Some, None}
use Rattle.std.specs.Option.{unwrap_or}
use Rattle.lines.specs.declared.asked.Asked.{Asked as AskedLine}
use Rattle.logs.specs.Session.{sort_of}
use Rattle.lines.specs.Asked.{asked_of}
use Rattle.lines.specs.Fields.{fields_of}
use Rattle.lines.specs.Lines.{Line}
use Rattle.recorder.specs.WholeRun.{Call}
use Rattle.fidelity.specs.Box.{Asked}

pub record Wanted : Type 0 where
  pub task : ℕ
  pub object : ℕ
  pub field : ℕ
  pub sort : ℕ
  pub value : ℕ

-- of a line that asks for an access, or of one that is malformed
abbrev pub wanted_as : Option AskedLine → Wanted
wanted_as (Some a) = record { task = a.task; object = a.object; field = a.field; sort = sort_of a.value; value = unwrap_or a.value 0 }
wanted_as None = record { task = 0; object = 0; field = 0; sort = 0; value = 0 }

-- of a line that names a field, or of one that names none
abbrev pub wanted_in : Bool → Line → Wanted
wanted_in named l = wanted_as (asked_of named (fields_of l.bytes))

abbrev pub wanted_of : Call → Wanted
wanted_of (Call.access c) = record { task = c.task; object = c.object; field = c.field; sort = c.sort; value = c.value }

abbrev pub wanted_by : Asked → Wanted
wanted_by x = wanted_of x.call
