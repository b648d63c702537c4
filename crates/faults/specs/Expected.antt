-- What the next word of a line has to be.
use Rattle.std.specs.Prelude.{Bool, false, cond, ◌||◌}
use Rattle.lines.specs.declared.field.Field.{Field}
use Rattle.lines.specs.Field.{is_number, is_read, is_write}
use Rattle.faults.specs.declared.expected.Expected.{Expected}
use Rattle.faults.specs.declared.expected.Expected.TheVariants.{Tasks, Objects, Fields, Owner, Start, Task, Letter, ReadObject, WriteObject, ReadField, WriteField, Value, End}
use Rattle.faults.specs.declared.expected.Form.{Form}
use Rattle.faults.specs.declared.expected.Form.TheVariants as form

-- what such a word looks like: a number, R or W; after the last word nothing may follow
abbrev pub form_of : Expected → Form
form_of Tasks = form.Number
form_of Objects = form.Number
form_of Fields = form.Number
form_of Owner = form.Number
form_of Start = form.Number
form_of Task = form.Number
form_of Letter = form.Letter
form_of ReadObject = form.Number
form_of WriteObject = form.Number
form_of ReadField = form.Number
form_of WriteField = form.Number
form_of Value = form.Number
form_of End = form.Nothing

abbrev pub is_letter : Field → Bool
is_letter f = is_read f || is_write f

abbrev pub has_form : Form → Field → Bool
has_form form.Number f = is_number f
has_form form.Letter f = is_letter f
has_form form.Nothing f = false

abbrev pub fits_as : Expected → Field → Bool
fits_as e f = has_form (form_of e) f

-- what is expected after such a word; owners and starting values go on without end. After a letter other than W comes the object of a
-- read. If lines name a field, it follows the object
abbrev pub behind_of : Bool → Expected → Expected
behind_of named Tasks = Objects
behind_of named Objects = Fields
behind_of named Fields = End
behind_of named Owner = Owner
behind_of named Start = Start
behind_of named Task = Letter
behind_of named Letter = ReadObject
behind_of named ReadObject = cond named ReadField End
behind_of named WriteObject = cond named WriteField Value
behind_of named ReadField = End
behind_of named WriteField = Value
behind_of named Value = End
behind_of named End = End

abbrev pub next_of : Bool → Expected → Field → Expected
next_of named e f = cond (is_write f) WriteObject (behind_of named e)
