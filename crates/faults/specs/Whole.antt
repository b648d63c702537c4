-- Nothing is wrong with a line: its reading stopped at the line's end, where the line may end or after as many owners or starting values as
-- there have to be.
use Rattle.std.specs.Prelude.{Bool, true, false, ◌&&◌, ℕ, eqb, length}
use Rattle.faults.specs.declared.expected.Expected.{Expected}
use Rattle.faults.specs.declared.expected.Expected.TheVariants.{Tasks, Objects, Fields, Owner, Start, Task, Letter, ReadObject, WriteObject, ReadField, WriteField, Value, End}
use Rattle.faults.specs.declared.kind.Kind.{Kind}
use Rattle.faults.specs.declared.kind.Kind.TheVariants.{Sizes, Owners, Starts, Access}
use Rattle.faults.specs.Stop.{Stop}

-- the line may end here; the first line may also end before F
abbrev pub may_end : Expected → Bool
may_end Tasks = false
may_end Objects = false
may_end Fields = true
may_end Owner = false
may_end Start = false
may_end Task = false
may_end Letter = false
may_end ReadObject = false
may_end WriteObject = false
may_end ReadField = false
may_end WriteField = false
may_end Value = false
may_end End = true

abbrev pub ends_well : Kind → ℕ → Expected → ℕ → Bool
ends_well Sizes n e k = may_end e
ends_well Owners n e k = eqb k n
ends_well Starts n e k = eqb k n
ends_well Access n e k = may_end e

unfoldable pub is_whole : Kind → ℕ → Stop → Bool
is_whole kind n s = eqb (length s.word) 0 && ends_well kind n s.expected s.words
