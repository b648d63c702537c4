-- The first list of a whole run (document 01, "Whole runs"): calls of `access` from an accepted opening. Which accesses are recorded,
-- what the reference memory (document 01: the paper box) says about them, and the recording that results.
use Rattle.std.specs.Prelude.{Bool, true, false, cond, List, [], ◌∷◌, ◌++◌, map, ℕ, ◌<◌, zero, suc, eqb, get_or, set, take}
use Rattle.reader.specs.Range.{AllUnder}
use Rattle.entries.specs.Recording.{Recording}
use Rattle.history.specs.Entry.{Act, Entry}
use Rattle.history.specs.History.{History}
use Rattle.tracker.specs.Orderings.{written_of}
use Rattle.recorder.specs.AccessOf.{is_write, cell_at}
use Rattle.opening.specs.OpenOf.{OpenOutcome, open_of, open_fields_of}
use Rattle.recorder.specs.WholeRun.{AccessCall, Call, Box, outcome, left_by, called_all, packed}
use Rattle.fidelity.specs.Filed.{bodies_from}
use Rattle.codec.specs.Cell.{cells_of}

-- the arguments of an opening; the starting values fit their type. The number of fields says which opening it is: 0 for the old one, else F
-- for the one with fields (document 02, F-6).
pub record Opening : Type 0 where
  pub tasks : ℕ
  pub objects : ℕ
  pub fields : ℕ
  pub owners : List ℕ
  pub starts : List ℕ
  pub memory : List ℕ
  pub out : List ℕ
  pub fits : AllUnder 4294967296 starts

abbrev pub opening : ℕ → Opening → OpenOutcome
opening zero o = open_of o.tasks o.objects o.owners o.starts o.memory o.out
opening (suc n) o = open_fields_of o.tasks o.objects (suc n) o.owners o.starts o.memory o.out

abbrev pub opened_by : Opening → OpenOutcome
opened_by o = opening o.fields o

-- how many cells there are: N, or N times F
abbrev pub cells_by : Opening → ℕ
cells_by o = cells_of o.fields o.objects

-- a call with any numbers; its value fits its type
abbrev pub Fits : Call → Type 0
Fits (Call.access c) = c.value < 4294967296

pub record Asked : Type 0 where
  pub call : Call
  pub fits : Fits call

abbrev pub calls_of : List Asked → List Call
calls_of asked = map (λ a. a.call) asked

-- the box after opening, and after the calls
abbrev pub first_box : Opening → Box
first_box o = record { state = (opened_by o).answer.state; memory = (opened_by o).memory; logs = λ t. [] }

abbrev pub last_box : Opening → List Asked → Box
last_box o asked = called_all (first_box o) (calls_of asked)

-- the call passes every check of the number table
abbrev pub accepts : Box → AccessCall → Bool
accepts b c = eqb (outcome b c).answer.number 0

-- the cell that a call names
abbrev pub cell_by : Box → AccessCall → ℕ
cell_by b c = cell_at b.state c.object c.field

-- the entry of an accepted access: its sort, its cell and the value it answered, with the orderings of its row
abbrev pub act_of : Bool → ℕ → ℕ → Act
act_of true cell value = Act.write cell value
act_of false cell value = Act.read cell value

abbrev pub recorded_entry : Box → AccessCall → Entry
recorded_entry b c = record {
  task = c.task;
  act = act_of (is_write c.sort) (cell_by b c) (outcome b c).answer.value;
  orderings = written_of b.state c.task (cell_by b c) (is_write c.sort);
}

-- what the reference memory is given for an access: its cell, sort and value, and whether it was accepted
pub record Fed : Type 0 where
  pub cell : ℕ
  pub write : Bool
  pub value : ℕ
  pub accepted : Bool

abbrev pub fed_by : Box → AccessCall → Fed
fed_by b c = record { cell = cell_by b c; write = is_write c.sort; value = c.value; accepted = accepts b c }

-- what a call adds, by its sort: the value it answers, the entry of the access it makes, and what the reference memory is given. A call
-- that makes no access adds no entry and gives nothing to the reference memory.
pub record Adds : Type 0 where
  pub answers : List ℕ
  pub entries : List Entry
  pub feeds : List Fed

abbrev pub added_by : Box → Call → Adds
added_by b (Call.access c) = record {
  answers = (outcome b c).answer.value ∷ [];
  entries = cond (accepts b c) (recorded_entry b c ∷ []) [];
  feeds = fed_by b c ∷ [];
}

-- the accepted accesses, newest first
unfoldable pub recorded_from : History → Box → List Call → History
recorded_from h b [] = h
recorded_from h b (c ∷ calls) = recorded_from ((added_by b c).entries ++ h) (left_by b c) calls

abbrev pub recorded : Opening → List Asked → History
recorded o asked = recorded_from [] (first_box o) (calls_of asked)

unfoldable pub fed_from : Box → List Call → List Fed
fed_from b [] = []
fed_from b (c ∷ calls) = (added_by b c).feeds ++ fed_from (left_by b c) calls

abbrev pub fed : Opening → List Asked → List Fed
fed o asked = fed_from (first_box o) (calls_of asked)

-- an accepted write sets its cell's value and answers it, an accepted read answers its cell's value; any other call answers 0 and
-- changes nothing
abbrev pub given : List ℕ → Fed → ℕ
given memory f = cond f.accepted (cond f.write f.value (get_or memory f.cell 0)) 0

abbrev pub kept : List ℕ → Fed → List ℕ
kept memory f = cond f.accepted (cond f.write (set memory f.cell f.value) memory) memory

unfoldable pub reference_memory : List ℕ → List Fed → List ℕ
reference_memory memory [] = memory
reference_memory memory (f ∷ fs) = reference_memory (kept memory f) fs

unfoldable pub reference_values : List ℕ → List Fed → List ℕ
reference_values memory [] = []
reference_values memory (f ∷ fs) = given memory f ∷ reference_values (kept memory f) fs

-- the values that the calls answer
unfoldable pub answers_from : Box → List Call → List ℕ
answers_from b [] = []
answers_from b (c ∷ calls) = (added_by b c).answers ++ answers_from (left_by b c) calls

-- the recording: the head written by opening, then for each task what the section writer wrote from the last state and the task's log
abbrev pub recording_of : Opening → List Asked → (ℕ → List ℕ) → List ℕ
recording_of o asked outs =
    take (opened_by o).answer.written (opened_by o).out ++ packed (last_box o asked).state (last_box o asked).logs outs 0 o.tasks

-- the recording as a value: the opening's T, number of fields, owners and starting values, and each task's accepted accesses
abbrev pub recording_by : Opening → List Asked → Recording
recording_by o asked = record { tasks = o.tasks; fields = o.fields; owners = o.owners; values = o.starts; bodies = bodies_from o.fields (recorded o asked) 0 o.tasks }
