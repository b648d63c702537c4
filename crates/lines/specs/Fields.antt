-- The fields of a line: each word as a number, R or W.
use Rattle.std.specs.Prelude.{cond, List, [], ◌∷◌, map, ℕ, eqb}
use Rattle.lines.specs.declared.field.Field.{Field}
use Rattle.lines.specs.declared.field.Field.TheVariants.{Read, Write, Other}
use Rattle.lines.specs.Field.{as_field}
use Rattle.lines.specs.Number.{number_of}
use Rattle.lines.specs.Words.{words_of}

-- a word of one byte
unfoldable pub letter_of : ℕ → Field
letter_of b = cond (eqb b 82) Read (cond (eqb b 87) Write (as_field (number_of (b ∷ []))))

unfoldable pub field_of : List ℕ → Field
field_of [] = Other
field_of (b ∷ []) = letter_of b
field_of (b ∷ c ∷ w) = as_field (number_of (b ∷ c ∷ w))

abbrev pub fields_of : List ℕ → List Field
fields_of l = map field_of (words_of l)
