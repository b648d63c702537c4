-- Laws of `Sum`.
use Rattle.std.specs.Prelude.{List, ◌≡◌, refl, ℕ, zero, suc, ◌+◌, ◌*◌, ◌≤◌, ◌<◌, length, get_or, set}
use Rattle.std.proofs.Common.{⊎_elim, eq-or-lt_of_le, le_of_suc-le-suc, add-one, arith, get_or-set_same, get_or-set_other}
use Rattle.codec.specs.Limit.{max_accesses}
use Rattle.tracker.specs.Sum.{sum_of}

pub sum-none : (xs : List ℕ) → sum_of xs 0 ≡ 0
unfolding sum_of
sum-none xs = refl

pub sum_more : (xs : List ℕ) (n : ℕ) → sum_of xs (n + 1) ≡ sum_of xs n + get_or xs n 0
unfolding sum_of
sum_more xs n = rw add-one

sum_past : (xs : List ℕ) (t a n : ℕ) → n ≤ t → sum_of (set xs t a) n ≡ sum_of xs n
unfolding sum_of
sum_past xs t a zero h = refl
sum_past xs t a (suc n) h =
    rw (sum_past xs t a n (omega arith), get_or-set_other xs t n a 0 (λ (e : n ≡ t). omega arith))

-- if one entry below the bound grows by one, so does the sum
pub sum_rises : (xs : List ℕ) (t n : ℕ) → t < length xs → t < n → sum_of (set xs t (get_or xs t 0 + 1)) n ≡ sum_of xs n + 1
unfolding sum_of
sum_rises xs t zero l h = absurd (let z : ⊥ = omega arith in z)
sum_rises xs t (suc n) l h =
    ⊎_elim
    (λ (e : t ≡ n). rw (sum_past xs t (get_or xs t 0 + 1) n (omega arith), ← e, get_or-set_same xs t (get_or xs t 0 + 1) 0 l) (omega arith))
    (λ (k : t < n). rw (sum_rises xs t n l k, get_or-set_other xs t n (get_or xs t 0 + 1) 0 (λ (e : n ≡ t). omega arith)) (omega arith))
    (eq-or-lt_of_le (le_of_suc-le-suc h))

-- n counts of at most 65,535 each have a sum of at most n times that
pub sum_bound : (xs : List ℕ) (n : ℕ) → ((i : ℕ) → i < n → get_or xs i 0 ≤ max_accesses) → sum_of xs n ≤ max_accesses * n
unfolding sum_of
sum_bound xs zero h = omega arith
sum_bound xs (suc n) h = omega (arith, sum_bound xs n (λ (i : ℕ) (k : i < n). h i (omega arith)), h n (omega arith))
