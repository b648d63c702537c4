-- The names of what was expected: a word or a missing line.
use Rattle.std.specs.Prelude.{List, ℕ, codes}
use Rattle.faults.specs.declared.expected.Expected.{Expected}
use Rattle.faults.specs.declared.expected.Expected.TheVariants.{Tasks, Objects, Fields, Owner, Start, Task, Letter, ReadObject, WriteObject, ReadField, WriteField, Value, End}
use Rattle.faults.specs.declared.kind.Kind.{Kind}
use Rattle.faults.specs.declared.kind.Kind.TheVariants.{Sizes, Owners, Starts, Access}

-- a word
abbrev pub tasks_word : List ℕ
tasks_word = codes "the number of tasks"

abbrev pub objects_word : List ℕ
objects_word = codes "the number of objects"

abbrev pub fields_word : List ℕ
fields_word = codes "the number of fields or the end of the line"

abbrev pub owner_word : List ℕ
owner_word = codes "an owner"

abbrev pub start_word : List ℕ
start_word = codes "a starting value"

abbrev pub task_word : List ℕ
task_word = codes "a task number"

abbrev pub letter_word : List ℕ
letter_word = codes "R or W"

abbrev pub object_word : List ℕ
object_word = codes "an object number"

abbrev pub field_word : List ℕ
field_word = codes "a field number"

abbrev pub value_word : List ℕ
value_word = codes "a value"

abbrev pub line_end : List ℕ
line_end = codes "the end of the line"

abbrev pub name_of : Expected → List ℕ
name_of Tasks = tasks_word
name_of Objects = objects_word
name_of Fields = fields_word
name_of Owner = owner_word
name_of Start = start_word
name_of Task = task_word
name_of Letter = letter_word
name_of ReadObject = object_word
name_of WriteObject = object_word
name_of ReadField = field_word
name_of WriteField = field_word
name_of Value = value_word
name_of End = line_end

-- a missing line's own names
abbrev pub owners_word : List ℕ
owners_word = codes "the owners"

abbrev pub starts_word : List ℕ
starts_word = codes "the starting values"

-- a missing line
abbrev pub missing_name : Kind → List ℕ
missing_name Sizes = tasks_word
missing_name Owners = owners_word
missing_name Starts = starts_word
missing_name Access = task_word
