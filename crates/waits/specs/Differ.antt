-- Why a play was stopped (document 02, F-3: number 19), as text: `the read at byte 66 got 7, but object 0 holds 5`, under head 7
-- `the read at byte 66 got 7, but field 1 of object 0 holds 5` (F-6), from the read's record and the memory.
use Rattle.std.specs.Prelude.{Err, Ok, cond, List, [], ◌∷◌, ◌++◌, ℕ, get_or, drop}
use Rattle.codec.specs.Cell.{op_cell}
use Rattle.codec.specs.Decode.{Decoded, record_of}
use Rattle.codec.specs.Kind.{has_field}
use Rattle.codec.specs.declared.Op.{Op}
use Rattle.codec.specs.declared.Record.TheVariants.{Head, Section, Ordering, Access}
use Rattle.text.specs.Decimal.{field_of}

-- `the read at byte `, `got `, ` but object `, ` but field `, `of object `, `holds `
abbrev pub read_words : List ℕ
read_words = 116 ∷ 104 ∷ 101 ∷ 32 ∷ 114 ∷ 101 ∷ 97 ∷ 100 ∷ 32 ∷ 97 ∷ 116 ∷ 32 ∷ 98 ∷ 121 ∷ 116 ∷ 101 ∷ 32 ∷ []

abbrev pub got_word : List ℕ
got_word = 103 ∷ 111 ∷ 116 ∷ 32 ∷ []

abbrev pub object_words : List ℕ
object_words = 32 ∷ 98 ∷ 117 ∷ 116 ∷ 32 ∷ 111 ∷ 98 ∷ 106 ∷ 101 ∷ 99 ∷ 116 ∷ 32 ∷ []

abbrev pub field_words : List ℕ
field_words = 32 ∷ 98 ∷ 117 ∷ 116 ∷ 32 ∷ 102 ∷ 105 ∷ 101 ∷ 108 ∷ 100 ∷ 32 ∷ []

abbrev pub of_words : List ℕ
of_words = 111 ∷ 102 ∷ 32 ∷ 111 ∷ 98 ∷ 106 ∷ 101 ∷ 99 ∷ 116 ∷ 32 ∷ []

abbrev pub holds_word : List ℕ
holds_word = 104 ∷ 111 ∷ 108 ∷ 100 ∷ 115 ∷ 32 ∷ []

-- the object, or the field of the object where the record names one
unfoldable pub cell_words : Op → List ℕ
cell_words o =
    cond (has_field o.kind) ((field_words ++ field_of o.field 32) ++ (of_words ++ field_of o.object 32)) (object_words ++ field_of o.object 32)

-- the record's offset, its value, its object and field, and what the memory holds there
unfoldable pub differ_line : ℕ → Op → ℕ → List ℕ
differ_line at o held = (read_words ++ field_of at 32) ++ (got_word ++ field_of o.value 44) ++ cell_words o ++ (holds_word ++ field_of held 10)

-- for a record that is an access, given the number of fields (0 under head 1); nothing for any other
unfoldable pub on_differ : ℕ → List ℕ → ℕ → Decoded → List ℕ
on_differ fields memory at (Ok (Head kind t n width)) = []
on_differ fields memory at (Ok (Section t n s)) = []
on_differ fields memory at (Ok (Ordering p)) = []
on_differ fields memory at (Ok (Access o)) = differ_line at o (get_or memory (op_cell fields o) 0)
on_differ fields memory at (Err n) = []

-- for the record at an offset
abbrev pub differ_of : ℕ → List ℕ → List ℕ → ℕ → List ℕ
differ_of fields b memory at = on_differ fields memory at (record_of (drop at b))

-- the most bytes that the cell can have, and the line
abbrev pub cell_most : ℕ
cell_most = 63

abbrev pub differ_most : ℕ
differ_most = 153
