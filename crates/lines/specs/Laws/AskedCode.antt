-- A line of an access as the code reads it, from a row that has room for its fields.
use Rattle.std.specs.Prelude.{◌≡◌, refl, Bool, true, false, ◌&&◌, List, ℕ, ◌≤◌, length, Some, None}
use Rattle.std.proofs.Common.{sym, arith, eq-eqb, ne_eqb}
use Rattle.std.proofs.Math.Bool.{and-false}
use Rattle.std.proofs.lemmas.Option.{none-some, same_Some}
use Rattle.std.proofs.lemmas.List.Edits.{sets}
use Rattle.codec.specs.Laws.Decide.{passes, fails, split}
use Rattle.lines.specs.declared.asked.Asked.{Asked}
use Rattle.lines.specs.declared.field.Field.{Field}
use Rattle.lines.specs.declared.field.Field.TheVariants.{Number}
use Rattle.lines.specs.Asked.{read_by, write_by, plain_of, fielded_of, word_at}
use Rattle.lines.specs.Field.{numeral_of, is_number, is_read, is_write}
use Rattle.lines.specs.Laws.RowCode.{row_at}

-- no field is named
module _ (row f now : List Field) (g : now ≡ sets row 0 f) (h : 4 ≤ length row) where
  pub plain_read : length f ≡ 3 → read_by (is_read (word_at now 1)) (word_at now 0) (word_at now 2) (Number 0) ≡ plain_of f
  unfolding plain_of
  plain_read e = rw (
    g,
    row_at row f 0 (omega arith) (omega arith),
    row_at row f 1 (omega arith) (omega arith),
    row_at row f 2 (omega arith) (omega arith),
    eq-eqb (length f) 3 e,
  )

  pub plain_write : length f ≡ 4 → write_by (is_write (word_at now 1)) (word_at now 0) (word_at now 2) (Number 0) (word_at now 3) ≡ plain_of f
  unfolding plain_of
  plain_write e = rw (
    g,
    row_at row f 0 (omega arith) (omega arith),
    row_at row f 1 (omega arith) (omega arith),
    row_at row f 2 (omega arith) (omega arith),
    row_at row f 3 (omega arith) (omega arith),
    ne_eqb (length f) 3 (λ z. omega arith),
    eq-eqb (length f) 4 e,
  )

pub plain_none : (f : List Field) → (length f ≡ 3 → ⊥) → (length f ≡ 4 → ⊥) → None ≡ plain_of f
unfolding plain_of
plain_none f h k = rw (ne_eqb (length f) 3 h, ne_eqb (length f) 4 k)

-- a field is named
module _ (row f now : List Field) (g : now ≡ sets row 0 f) (h : 5 ≤ length row) where
  pub fielded_read : length f ≡ 4 → read_by (is_read (word_at now 1)) (word_at now 0) (word_at now 2) (word_at now 3) ≡ fielded_of f
  unfolding fielded_of
  fielded_read e = rw (
    g,
    row_at row f 0 (omega arith) (omega arith),
    row_at row f 1 (omega arith) (omega arith),
    row_at row f 2 (omega arith) (omega arith),
    row_at row f 3 (omega arith) (omega arith),
    eq-eqb (length f) 4 e,
  )

  pub fielded_write : length f ≡ 5 → write_by (is_write (word_at now 1)) (word_at now 0) (word_at now 2) (word_at now 3) (word_at now 4) ≡ fielded_of f
  unfolding fielded_of
  fielded_write e = rw (
    g,
    row_at row f 0 (omega arith) (omega arith),
    row_at row f 1 (omega arith) (omega arith),
    row_at row f 2 (omega arith) (omega arith),
    row_at row f 3 (omega arith) (omega arith),
    row_at row f 4 (omega arith) (omega arith),
    ne_eqb (length f) 4 (λ z. omega arith),
    eq-eqb (length f) 5 e,
  )

pub fielded_none : (f : List Field) → (length f ≡ 4 → ⊥) → (length f ≡ 5 → ⊥) → None ≡ fielded_of f
unfolding fielded_of
fielded_none f h k = rw (ne_eqb (length f) 4 h, ne_eqb (length f) 5 k)

-- a write is a read with a value
assoc : (r t o i v : Bool) → (r && (t && (o && (i && v)))) ≡ ((r && (t && (o && i))) && v)
assoc true true true i v = refl
assoc true true false i v = refl
assoc true false o i v = refl
assoc false t o i v = refl

module _ (right : Bool) (t o i v : Field) where
  pub write-none : read_by right t o i ≡ None → write_by right t o i v ≡ None
  unfolding read_by write_by
  write-none e = elim (split (right && (is_number t && (is_number o && is_number i)))) [
    | passes p ↦ absurd (none-some _ (sym (rw p at e)))
    | fails p ↦ rw (assoc right (is_number t) (is_number o) (is_number i) (is_number v), p)
  ]

  pub write-bare : numeral_of v ≡ None → write_by right t o i v ≡ None
  unfolding write_by
  write-bare e = rw (assoc right (is_number t) (is_number o) (is_number i) (is_number v), e, and-false)

  pub write-valued : (a : Asked) (x : ℕ) → read_by right t o i ≡ Some a → numeral_of v ≡ Some x
      → Some (record { task = a.task; object = a.object; field = a.field; value = Some x }) ≡ write_by right t o i v
  unfolding read_by write_by
  write-valued a x e n = elim (split (right && (is_number t && (is_number o && is_number i)))) [
    | passes p ↦ let k = same_Some _ _ (rw p at e) in rw (assoc right (is_number t) (is_number o) (is_number i) (is_number v), p, n, ← k)
    | fails p ↦ absurd (none-some _ (rw p at e))
  ]
