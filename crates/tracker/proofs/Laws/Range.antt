-- Laws of `Range`.
use Rattle.std.specs.Prelude.{Bool, true, false, ◌≡◌, refl, ℕ, zero, suc, ◌+◌, ◌<◌}
use Rattle.std.proofs.Math.Bool.{and-false, and-eq-true_iff}
use Rattle.std.proofs.Common.{⊎_elim, eq-or-lt_of_le, le_of_suc-le-suc, add-one, arith}
use Rattle.tracker.specs.Range.{all_below}

pub all_none : (f : ℕ → Bool) → all_below f 0 ≡ true
unfolding all_below
all_none f = refl

pub all_more : (f : ℕ → Bool) (n : ℕ) → all_below f n ≡ true → f n ≡ true → all_below f (n + 1) ≡ true
unfolding all_below
all_more f n h k = rw (add-one, h, k)

pub all_fails : (f : ℕ → Bool) (n i : ℕ) → i < n → f i ≡ false → all_below f n ≡ false
unfolding all_below
all_fails f zero i h k = absurd (let z : ⊥ = omega arith in z)
all_fails f (suc n) i h k =
    ⊎_elim
    (λ (e : i ≡ n). rw (← e, k) (and-false (all_below f i)))
    (λ (l : i < n). rw (all_fails f n i l k))
    (eq-or-lt_of_le (le_of_suc-le-suc h))

pub all-at : (f : ℕ → Bool) (n : ℕ) → all_below f n ≡ true → (i : ℕ) → i < n → f i ≡ true
unfolding all_below
all-at f zero e i h = absurd (let z : ⊥ = omega arith in z)
all-at f (suc n) e i h =
    let b = (and-eq-true_iff (all_below f n) (f n)).0 e in
    ⊎_elim (λ (k : i ≡ n). rw k b.1) (λ (l : i < n). all-at f n b.0 i l) (eq-or-lt_of_le (le_of_suc-le-suc h))

pub all-from : (f : ℕ → Bool) (n : ℕ) → ((i : ℕ) → i < n → f i ≡ true) → all_below f n ≡ true
unfolding all_below
all-from f zero h = refl
all-from f (suc n) h = rw (all-from f n (λ (i : ℕ) (k : i < n). h i (omega arith)), h n (omega arith))
