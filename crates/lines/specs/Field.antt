-- A word of a line as a field: a number, R, W, or none of these.
use Rattle.std.specs.Prelude.{Bool, true, false, ℕ, Option, Some, None, is_some}
use Rattle.std.specs.Option.{unwrap_or}
use Rattle.lines.specs.declared.field.Field.{Field}
use Rattle.lines.specs.declared.field.Field.TheVariants.{Number, Read, Write, Other}

-- a word that is a number, or none
abbrev pub as_field : Option ℕ → Field
as_field (Some n) = Number n
as_field None = Other

-- the number, if the word is one
abbrev pub numeral_of : Field → Option ℕ
numeral_of (Number n) = Some n
numeral_of Read = None
numeral_of Write = None
numeral_of Other = None

abbrev pub is_number : Field → Bool
is_number f = is_some (numeral_of f)

-- the number, or 0
abbrev pub value_of : Field → ℕ
value_of f = unwrap_or (numeral_of f) 0

abbrev pub is_read : Field → Bool
is_read Read = true
is_read (Number n) = false
is_read Write = false
is_read Other = false

abbrev pub is_write : Field → Bool
is_write Write = true
is_write (Number n) = false
is_write Read = false
is_write Other = false
