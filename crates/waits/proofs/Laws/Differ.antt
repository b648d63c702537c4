-- The reason of a 19: the cell that it names, its length, and how the code finds the record.
use Rattle.std.specs.Prelude.{Err, Ok, ◌≡◌, refl, [], true, false, List, ◌++◌, ℕ, ◌≤◌, ◌-◌, min, length, get_or, take, drop}
use Rattle.std.proofs.Common.{ap, ◌∙◌, arith, drop_of_length-le, length-append}
use Rattle.std.proofs.Math.Decide.{dec_le}
use Rattle.codec.specs.declared.Op.{Op}
use Rattle.codec.specs.declared.Record.{Record}
use Rattle.codec.specs.declared.Record.TheVariants.{Head, Section, Ordering, Access}
use Rattle.codec.specs.Decode.{Decoded, record_of}
use Rattle.codec.specs.Kind.{has_field}
use Rattle.codec.specs.Laws.Cell.{cell_one}
use Rattle.codec.specs.Laws.Decide.{passes, fails, split}
use Rattle.entries.proofs.Laws.Part.{rest_all}
use Rattle.text.specs.Decimal.{field_of}
use Rattle.text.specs.Laws.Decimal.{decimal_short}
use Rattle.waits.specs.Differ.{read_words, got_word, object_words, field_words, of_words, holds_word, cell_words, differ_line, on_differ, differ_of, cell_most, differ_most}

-- a record that names a field, and one that names none
pub cell_field : (o : Op) → has_field o.kind ≡ true → cell_words o ≡ (field_words ++ field_of o.field 32) ++ (of_words ++ field_of o.object 32)
unfolding cell_words
cell_field o h = rw h

pub cell-bare : (o : Op) → has_field o.kind ≡ false → cell_words o ≡ object_words ++ field_of o.object 32
unfolding cell_words
cell-bare o h = rw h

-- UNDER HEAD 1 THE LINE STAYS: it names the object alone, and the memory has a value for each object
pub differ_one : (memory : List ℕ) (at : ℕ) (o : Op) → has_field o.kind ≡ false → o.field ≡ 0
    → on_differ 0 memory at (Ok (Access o))
    ≡ (read_words ++ field_of at 32) ++ (got_word ++ field_of o.value 44) ++ (object_words ++ field_of o.object 32)
    ++ (holds_word ++ field_of (get_or memory o.object 0) 10)
unfolding on_differ differ_line
differ_one memory at o h z = rw (cell-bare o h, z, cell_one)

cell-short : (o : Op) → length (cell_words o) ≤ cell_most
cell-short o = elim (split (has_field o.kind)) [
  | passes p ↦ rw (cell_field o p) (simp length-append (omega (arith, decimal_short o.field, decimal_short o.object)))
  | fails p ↦ rw (cell-bare o p) (simp length-append (omega (arith, decimal_short o.object)))
]

line-short : (at : ℕ) (o : Op) (held : ℕ) → length (differ_line at o held) ≤ differ_most
unfolding differ_line
line-short at o held = simp length-append (omega (arith, decimal_short at, decimal_short o.value, cell-short o, decimal_short held))

on-short : (fields : ℕ) (memory : List ℕ) (at : ℕ) (r : Decoded) → length (on_differ fields memory at r) ≤ differ_most
unfolding on_differ
on-short fields memory at (Ok (Head kind t n width)) = omega arith
on-short fields memory at (Ok (Section t n s)) = omega arith
on-short fields memory at (Ok (Ordering p)) = omega arith
on-short fields memory at (Ok (Access o)) = line-short at o _
on-short fields memory at (Err n) = omega arith

pub differ_short : (fields : ℕ) (b memory : List ℕ) (at : ℕ) → length (differ_of fields b memory at) ≤ differ_most
differ_short fields b memory at = on-short fields memory at (record_of (drop at b))

-- a record that is no access
pub no_access : (fields : ℕ) (memory : List ℕ) (at : ℕ) (r : Record) → ((o : Op) → r ≡ Access o → ⊥) → on_differ fields memory at (Ok r) ≡ []
unfolding on_differ
no_access fields memory at (Head kind t n width) h = refl
no_access fields memory at (Section t n s) h = refl
no_access fields memory at (Ordering p) h = refl
no_access fields memory at (Access o) h = absurd (h o refl)

-- past the end of the bytes there is no record
drop-within : (b : List ℕ) (at : ℕ) → drop (min at (length b)) b ≡ drop at b
drop-within b at = elim (dec_le at (length b)) [
  | yes h ↦ let e : min at (length b) ≡ at = omega arith in rw e
  | no h ↦
      let e : min at (length b) ≡ length b = omega arith in
      rw (e, drop_of_length-le b {i = length b} (omega arith), drop_of_length-le b {i = at} (omega arith))
]

pub record-there : (b : List ℕ) (at from : ℕ) (r : Decoded) → from ≡ min at (length b) → r ≡ record_of (take (length b - from) (drop from b)) → r ≡ record_of (drop at b)
record-there b at from r e h = h ∙ ap (record_of) (rest_all from b ∙ ap (λ (n : ℕ). drop n b) e ∙ drop-within b at)
