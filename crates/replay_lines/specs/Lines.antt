-- The lines that the program writes (document 01, "The replay program").
use Rattle.std.specs.Prelude.{Bool, cond, List, [], ◌∷◌, ◌++◌, ℕ}
use Rattle.codec.specs.Kind.{reads, has_field}
use Rattle.replayer.specs.declared.Stepped.{Stepped}
use Rattle.text.specs.Decimal.{decimal_of, field_of}

-- `long`
abbrev pub long_line : List ℕ
long_line = 108 ∷ 111 ∷ 110 ∷ 103 ∷ 10 ∷ []

-- `refused`, the number, the offset
unfoldable pub refusal_of : ℕ → ℕ → List ℕ
refusal_of number offset = (114 ∷ 101 ∷ 102 ∷ 117 ∷ 115 ∷ 101 ∷ 100 ∷ 32 ∷ []) ++ field_of number 32 ++ field_of offset 10

-- R for a read, else W
abbrev pub letter_of : ℕ → ℕ
letter_of kind = cond (reads kind) 82 87

-- the object, and its field where the access's kind names one: under head 7 (document 02, F-6)
unfoldable pub object_of : ℕ → ℕ → ℕ → List ℕ
object_of kind object field = cond (has_field kind) (field_of object 32 ++ field_of field 32) (field_of object 32)

-- task, number of the access, R or W, object and field, value, with single spaces between them
unfoldable pub line_of : ℕ → Stepped → List ℕ
line_of task s =
    field_of task 32 ++ field_of s.access 32 ++ (letter_of s.kind ∷ 32 ∷ []) ++ object_of s.kind s.object s.field ++ field_of s.value 10

-- `end` or `stuck`, and the number of steps
unfoldable pub end_line : Bool → ℕ → List ℕ
end_line finished steps = cond finished (101 ∷ 110 ∷ 100 ∷ 32 ∷ []) (115 ∷ 116 ∷ 117 ∷ 99 ∷ 107 ∷ 32 ∷ []) ++ field_of steps 10

-- each value after a space
unfoldable pub spaced : List ℕ → List ℕ
spaced [] = []
spaced (v ∷ vs) = (32 ∷ decimal_of v) ++ spaced vs

-- `memory` and the values
unfoldable pub memory_of : List ℕ → List ℕ
memory_of vs = (109 ∷ 101 ∷ 109 ∷ 111 ∷ 114 ∷ 121 ∷ []) ++ spaced vs ++ (10 ∷ [])
