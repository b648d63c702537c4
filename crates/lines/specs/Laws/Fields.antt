-- Laws of `Fields`.
use Rattle.std.specs.Prelude.{◌≡◌, refl, List, [], ◌∷◌, ℕ, ◌<◌, eqb, Option, Some, None}
use Rattle.std.proofs.Common.{arith, ne_eqb}
use Rattle.codec.specs.Laws.Decide.{passes, fails, split}
use Rattle.lines.specs.declared.field.Field.TheVariants.{Read, Write}
use Rattle.lines.specs.Field.{as_field, value_of}
use Rattle.lines.specs.Laws.Number.{number_low}
use Rattle.lines.specs.Number.{number_limit, number_of}
use Rattle.lines.specs.Fields.{letter_of, field_of}

module _ (w : List ℕ) where
  pub field-read : w ≡ 82 ∷ [] → field_of w ≡ Read
  unfolding field_of letter_of
  field-read e = rw e

  pub field-write : w ≡ 87 ∷ [] → field_of w ≡ Write
  unfolding field_of letter_of
  field-write e = rw e

pub field-number : (w : List ℕ) → (w ≡ 82 ∷ [] → ⊥) → (w ≡ 87 ∷ [] → ⊥) → field_of w ≡ as_field (number_of w)
unfolding field_of letter_of number_of
field-number [] h k = refl
field-number (b ∷ []) h k = rw (ne_eqb b 82 (λ e. h (rw e)), ne_eqb b 87 (λ e. k (rw e)))
field-number (b ∷ c ∷ w) h k = refl

-- every number is below the limit
as-low : (o : Option ℕ) → ((n : ℕ) → o ≡ Some n → n < number_limit) → value_of (as_field o) < number_limit
as-low (Some n) h = h n refl
as-low None h = omega arith

pub field-low : (w : List ℕ) → value_of (field_of w) < number_limit
unfolding field_of letter_of
field-low [] = omega arith
field-low (b ∷ []) = elim (split (eqb b 82)) [
  | passes p ↦ rw p (omega arith)
  | fails p ↦ elim (split (eqb b 87)) [
    | passes q ↦ rw (p, q) (omega arith)
    | fails q ↦ rw (p, q) (as-low _ (number_low (b ∷ [])))
  ]
]
field-low (b ∷ c ∷ w) = as-low _ (number_low (b ∷ c ∷ w))
