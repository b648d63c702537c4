-- The line of an access: `task R object` or `task W object value`; if lines name a field, it follows the object (document 02, F-6).
use Rattle.std.specs.Prelude.{Bool, cond, ◌&&◌, List, ℕ, eqb, length, get_or, Option, Some, None}
use Rattle.lines.specs.declared.asked.Asked.{Asked}
use Rattle.lines.specs.declared.field.Field.{Field}
use Rattle.lines.specs.declared.field.Field.TheVariants.{Number, Other}
use Rattle.lines.specs.Field.{numeral_of, is_number, value_of, is_read, is_write}

-- an access with these numbers
abbrev pub access_by : Field → Field → Field → Option ℕ → Asked
access_by t o i value = record { task = value_of t; object = value_of o; field = value_of i; value = value }

-- a read, given whether its letter is right; the numbers must be numbers
unfoldable pub read_by : Bool → Field → Field → Field → Option Asked
read_by right t o i = cond (right && (is_number t && (is_number o && is_number i))) (Some (access_by t o i None)) None

-- a write, likewise
unfoldable pub write_by : Bool → Field → Field → Field → Field → Option Asked
write_by right t o i v = cond (right && (is_number t && (is_number o && (is_number i && is_number v)))) (Some (access_by t o i (numeral_of v))) None

-- the word at an index
abbrev pub word_at : List Field → ℕ → Field
word_at f i = get_or f i Other

-- no field is named: three words or four
unfoldable pub plain_of : List Field → Option Asked
plain_of f =
    cond (eqb (length f) 3) (read_by (is_read (word_at f 1)) (word_at f 0) (word_at f 2) (Number 0))
    (cond (eqb (length f) 4) (write_by (is_write (word_at f 1)) (word_at f 0) (word_at f 2) (Number 0) (word_at f 3)) None)

-- a field is named: four words or five
unfoldable pub fielded_of : List Field → Option Asked
fielded_of f =
    cond (eqb (length f) 4) (read_by (is_read (word_at f 1)) (word_at f 0) (word_at f 2) (word_at f 3))
    (cond (eqb (length f) 5) (write_by (is_write (word_at f 1)) (word_at f 0) (word_at f 2) (word_at f 3) (word_at f 4)) None)

abbrev pub asked_of : Bool → List Field → Option Asked
asked_of named f = cond named (fielded_of f) (plain_of f)
