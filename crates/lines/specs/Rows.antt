-- The first three lines of a text: T and N, or T, N and F; N owners; N times F starting values.
use Rattle.std.specs.Prelude.{Bool, true, cond, ◌&&◌, List, [], ◌∷◌, map, ℕ, min, eqb, length, take_while, Option, Some, None, is_some}
use Rattle.std.specs.Option.{unwrap_or}
use Rattle.lines.specs.declared.field.Field.{Field}
use Rattle.lines.specs.declared.rows.Sizes.{Sizes}
use Rattle.lines.specs.Asked.{word_at}
use Rattle.lines.specs.Field.{is_number, value_of}

unfoldable pub all_numbers : List Field → Bool
all_numbers [] = true
all_numbers (f ∷ fs) = is_number f && all_numbers fs

-- a given number of numbers
unfoldable pub is_row : ℕ → List Field → Bool
is_row n f = eqb (length f) n && all_numbers f

abbrev pub values_of : List Field → List ℕ
values_of f = map value_of f

-- the numbers in front of the first word that is none
abbrev pub leading : List Field → List ℕ
leading f = values_of (take_while is_number f)

-- the numbers, if there are so many and each word is one
unfoldable pub numbers_of : ℕ → List Field → Option (List ℕ)
numbers_of n f = cond (is_row n f) (Some (values_of f)) None

-- the number at an index
abbrev pub number_at : List Field → ℕ → ℕ
number_at f i = value_of (word_at f i)

-- T and N; with a third number, F, the lines of accesses name a field (document 02, F-6)
unfoldable pub sizes_of : List Field → Option Sizes
sizes_of f =
    cond (is_row 2 f) (Some (record { tasks = number_at f 0; objects = number_at f 1; fields = None }))
    (cond (is_row 3 f) (Some (record { tasks = number_at f 0; objects = number_at f 1; fields = Some (number_at f 2) }))
    None)

-- whether the lines of accesses name a field, and F, 0 if not
abbrev pub has_fields : Sizes → Bool
has_fields z = is_some z.fields

abbrev pub fields_in : Sizes → ℕ
fields_in z = unwrap_or z.fields 0

-- an owner fits a byte; a larger number becomes 255, which is below no T
abbrev pub owner_of : ℕ → ℕ
owner_of n = min n 255

abbrev pub owners_of : List Field → List ℕ
owners_of f = map owner_of (values_of f)
