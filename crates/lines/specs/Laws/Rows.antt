-- Laws of `Rows`.
use Rattle.std.specs.Prelude.{◌≡◌, Option, is_some, refl, true, false, List, [], ◌∷◌, map, ℕ, zero, suc, ◌<◌, get_or, Some, None}
use Rattle.std.proofs.Common.{true≢false, sym, arith}
use Rattle.std.specs.Option.{unwrap_or}
use Rattle.std.proofs.lemmas.Option.{none-some, same_Some}
use Rattle.codec.specs.Laws.Decide.{passes, fails, split}
use Rattle.lines.specs.declared.field.Field.{Field}
use Rattle.lines.specs.declared.rows.Sizes.{Sizes}
use Rattle.lines.specs.Field.{value_of}
use Rattle.lines.specs.Fields.{field_of, fields_of}
use Rattle.lines.specs.Laws.Fields.{field-low}
use Rattle.lines.specs.Number.{number_limit}
use Rattle.lines.specs.Words.{words_of}
use Rattle.reader.specs.Laws.Range.{under_at}
use Rattle.reader.specs.Laws.Strict.{below_under}
use Rattle.reader.specs.Parse.{all_below}
use borrow.Author.Tests.{lt-ltb}
use Rattle.lines.specs.Rows.{is_row, values_of, numbers_of, number_at, sizes_of, has_fields, fields_in}

pub numbers-some : (n : ℕ) (f : List Field) → is_row n f ≡ true → numbers_of n f ≡ Some (values_of f)
unfolding numbers_of
numbers-some n f h = rw h

pub numbers-none : (n : ℕ) (f : List Field) → is_row n f ≡ false → numbers_of n f ≡ None
unfolding numbers_of
numbers-none n f h = rw h

pub numbers_facts : (n : ℕ) (f : List Field) (row : List ℕ) → numbers_of n f ≡ Some row → (is_row n f ≡ true) × (row ≡ values_of f)
unfolding numbers_of
numbers_facts n f row e = elim (split (is_row n f)) [
  | passes p ↦ (p, sym (same_Some _ _ (rw p at e)))
  | fails p ↦ absurd (none-some _ (rw p at e))
]

pub numbers_bad : (n : ℕ) (f : List Field) → numbers_of n f ≡ None → is_row n f ≡ false
unfolding numbers_of
numbers_bad n f e = elim (split (is_row n f)) [
  | passes p ↦ absurd (none-some _ (sym (rw p at e)))
  | fails p ↦ p
]

pub value_at : (f : List Field) (i : ℕ) → get_or (values_of f) i 0 ≡ number_at f i
value_at [] i = refl
value_at (x ∷ f) zero = refl
value_at (x ∷ f) (suc i) = value_at f i

-- the first line: two numbers, three, or neither
module _ (f : List Field) where
  pub sizes-two : (row : List ℕ) → numbers_of 2 f ≡ Some row → Some (record { tasks = get_or row 0 0; objects = get_or row 1 0; fields = None }) ≡ sizes_of f
  unfolding sizes_of
  sizes-two row e = let n = numbers_facts 2 f row e in rw (n.0, n.1, value_at f 0, value_at f 1)

  pub sizes-three : (row : List ℕ) → numbers_of 2 f ≡ None → numbers_of 3 f ≡ Some row
      → Some (record { tasks = get_or row 0 0; objects = get_or row 1 0; fields = Some (get_or row 2 0) }) ≡ sizes_of f
  unfolding sizes_of
  sizes-three row d e = let n = numbers_facts 3 f row e in rw (numbers_bad 2 f d, n.0, n.1, value_at f 0, value_at f 1, value_at f 2)

  pub sizes-none : numbers_of 2 f ≡ None → numbers_of 3 f ≡ None → sizes_of f ≡ None
  unfolding sizes_of
  sizes-none d e = rw (numbers_bad 2 f d, numbers_bad 3 f e)

-- fields whose numbers are below the limit, as the code has them
module _ (f : List Field) (h : all_below number_limit (values_of f) ≡ true) where
  pub row_low : (i : ℕ) → number_at f i < number_limit
  row_low i = rw (← value_at f i) (under_at number_limit (values_of f) i (omega arith) (below_under number_limit (values_of f) h))

  pub row_sizes_low : (z : Sizes) → sizes_of f ≡ Some z → (z.objects < number_limit) × (fields_in z < number_limit)
  unfolding sizes_of
  row_sizes_low z e = elim (split (is_row 2 f)) [
    | passes p ↦ rw (← same_Some _ _ (rw p at e)) (row_low 1, omega arith)
    | fails p ↦ elim (split (is_row 3 f)) [
      | passes q ↦ rw (← same_Some _ _ (rw (p, q) at e)) (row_low 1, row_low 2)
      | fails q ↦ absurd (none-some z (rw (p, q) at e))
    ]
  ]

-- the numbers of a line are below the limit
all-low : (ws : List (List ℕ)) → all_below number_limit (values_of (map field_of ws)) ≡ true
unfolding all_below
all-low [] = refl
all-low (w ∷ ws) = rw (lt-ltb (value_of (field_of w)) number_limit (field-low w)) (all-low ws)

pub values_low : (line : List ℕ) → all_below number_limit (values_of (fields_of line)) ≡ true
values_low line = all-low (words_of line)

pub numbers_low : (line : List ℕ) (i : ℕ) → number_at (fields_of line) i < number_limit
numbers_low line i = row_low (fields_of line) (values_low line) i

pub sizes_low : (line : List ℕ) (z : Sizes) → sizes_of (fields_of line) ≡ Some z → (z.objects < number_limit) × (fields_in z < number_limit)
sizes_low line z e = row_sizes_low (fields_of line) (values_low line) z e

-- a line without F has 0 for it
pub sizes_unnamed : (z : Sizes) → has_fields z ≡ false → fields_in z ≡ 0
sizes_unnamed z h = none (z.fields) h
  where
    none : (o : Option ℕ) → is_some o ≡ false → unwrap_or o 0 ≡ 0
    none None h = refl
    none (Some n) h = absurd (true≢false h)
