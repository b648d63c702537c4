-- Why a call refuses, as the number of the number table.
use Rattle.std.specs.Prelude.{ℕ}
use Rattle.codec.specs.declared.number.Reason.{Reason}
use Rattle.codec.specs.declared.number.Reason.TheVariants.{TaskRange, ObjectRange, Entries, OwnerRange, NoTask, NoObject, NoSort, Full, NoRoom, Short, Malformed, Misplaced, Range, InBody, Finished, Held, Unsound, NoOrder, Differs, NoField, Ends}
use Rattle.codec.specs.Number.{task_range, object_range, entries, owner_range, no_task, no_object, no_sort, full, no_room, short, malformed, misplaced, range, in_body, finished, held, unsound, no_order, differs, no_field, ends}

abbrev pub number_of : Reason → ℕ
number_of TaskRange = task_range
number_of ObjectRange = object_range
number_of Entries = entries
number_of OwnerRange = owner_range
number_of NoTask = no_task
number_of NoObject = no_object
number_of NoSort = no_sort
number_of Full = full
number_of NoRoom = no_room
number_of Short = short
number_of Malformed = malformed
number_of Misplaced = misplaced
number_of Range = range
number_of InBody = in_body
number_of Finished = finished
number_of Held = held
number_of Unsound = unsound
number_of NoOrder = no_order
number_of Differs = differs
number_of NoField = no_field
number_of Ends = ends
