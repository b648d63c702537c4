-- What a line of the text is: T and N, or T, N and F; the owners; the starting values; or an access.
use Rattle.std.specs.Prelude.{ℕ}
use Rattle.codec.specs.Cell.{cells_of}
use Rattle.lines.specs.declared.rows.Sizes as sizes
use Rattle.lines.specs.Rows.{fields_in}
use Rattle.faults.specs.declared.expected.Expected.{Expected}
use Rattle.faults.specs.declared.expected.Expected.TheVariants.{Tasks, Owner, Start, Task}
use Rattle.faults.specs.declared.kind.Kind.{Kind}
use Rattle.faults.specs.declared.kind.Kind.TheVariants.{Sizes, Owners, Starts, Access}

-- what its first word has to be
abbrev pub first_of : Kind → Expected
first_of Sizes = Tasks
first_of Owners = Owner
first_of Starts = Start
first_of Access = Task

-- what the next line is
abbrev pub kind_after : Kind → Kind
kind_after Sizes = Owners
kind_after Owners = Starts
kind_after Starts = Access
kind_after Access = Access

-- how many numbers a line of owners or starting values has
abbrev pub count_of : Kind → sizes.Sizes → ℕ
count_of Sizes z = 0
count_of Owners z = z.objects
count_of Starts z = cells_of (fields_in z) z.objects
count_of Access z = 0
