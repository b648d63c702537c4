-- Laws of `Number`: a word read digit by digit.
use Rattle.std.specs.Prelude.{◌≡◌, refl, true, false, ◌&&◌, ltb, List, [], ◌∷◌, ℕ, ◌+◌, ◌-◌, ◌*◌, ◌<◌, ◌≤◌, length, get_or, drop, Option, Some, None, SomeIff}
use Rattle.std.proofs.Common.{ap, add-one, arith, drop_of_length-le, drop-cons}
use borrow.Author.Tests.{lt-ltb, le-ltb, ltb-true}
use Rattle.std.proofs.lemmas.Option.{none-some, same_Some}
use Rattle.codec.specs.Laws.Decide.{passes, fails, split, both_pass}
use Rattle.lines.specs.Number.{number_limit, is_digit, digit_on, digits_on, number_of}

pub number_empty : (w : List ℕ) → length w ≡ 0 → number_of w ≡ None
unfolding number_of
number_empty [] h = refl
number_empty (b ∷ bs) h = absurd (let z : ⊥ = omega arith in z)

pub number-some : (w : List ℕ) → (length w ≡ 0 → ⊥) → digits_on 0 w ≡ number_of w
unfolding number_of
number-some [] h = absurd (h refl)
number-some (b ∷ bs) h = refl

pub digits_next : (v i n : ℕ) (w : List ℕ) → i < length w → digit_on v (get_or w i 0) ≡ Some n → digits_on v (drop i w) ≡ digits_on n (drop (i + 1) w)
unfolding digits_on
digits_next v i n w h e = rw (drop-cons w i 0 h, add-one, e)

pub digits_off : (v i : ℕ) (w : List ℕ) → i < length w → digit_on v (get_or w i 0) ≡ None → digits_on v (drop i w) ≡ None
unfolding digits_on
digits_off v i w h e = rw (drop-cons w i 0 h, e)

pub digits_end : (v i : ℕ) (w : List ℕ) → length w ≤ i → digits_on v (drop i w) ≡ Some v
unfolding digits_on
digits_end v i w h = rw (drop_of_length-le w h)

-- one more digit, as the code reads it
module _ (v b : ℕ) where
  pub digit_off : is_digit b ≡ false → digit_on v b ≡ None
  unfolding digit_on
  digit_off h = rw h

  pub digit_large : (v * 10 < number_limit → ⊥) → digit_on v b ≡ None
  unfolding digit_on
  digit_large h = elim (split (is_digit b)) [
    | passes p ↦ rw (p, le-ltb (10 * v + (b - 48)) number_limit (omega arith))
    | fails p ↦ rw p
  ]

  pub digit_sum : (m d : ℕ) (r : Option ℕ) → is_digit b ≡ true → m ≡ v * 10 → d ≡ b - 48 → SomeIff r (m + d < number_limit) (m + d) → r ≡ digit_on v b
  unfolding digit_on
  digit_sum m d (Some n) p e f h = rw (p, lt-ltb (10 * v + (b - 48)) number_limit (omega (arith, h.0))) (ap Some (omega (arith, h.1)))
  digit_sum m d None p e f h = rw (p, le-ltb (10 * v + (b - 48)) number_limit (let k : ¬ (m + d < number_limit) = h in omega arith))

-- every number is below the limit
digits-low : (v : ℕ) (w : List ℕ) (n : ℕ) → v < number_limit → digits_on v w ≡ Some n → n < number_limit
unfolding digits_on digit_on
digits-low v [] n h e = omega (arith, same_Some v n e)
digits-low v (b ∷ w) n h e = elim (split (is_digit b && ltb (10 * v + (b - 48)) number_limit)) [
  | passes p ↦ digits-low (10 * v + (b - 48)) w n (ltb-true _ _ (both_pass (is_digit b) _ p).1) (rw p at e)
  | fails p ↦ absurd (none-some n (rw p at e))
]

pub number_low : (w : List ℕ) (n : ℕ) → number_of w ≡ Some n → n < number_limit
unfolding number_of
number_low [] n e = absurd (none-some n e)
number_low (b ∷ w) n e = digits-low 0 (b ∷ w) n (omega arith) e
