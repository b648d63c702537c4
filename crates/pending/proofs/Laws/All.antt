-- Laws of `All`.
use Rattle.std.specs.Prelude.{◌≡◌, refl, Bool, true, false, ℕ, zero, suc, ◌+◌, ◌-◌, ◌≤◌, ◌<◌}
use Rattle.std.proofs.Common.{add-zero, arith}
use Rattle.codec.specs.Laws.Decide.{both_pass}
use Rattle.pending.specs.All.{all_from}

-- one pass of the loop from i up to n
pub all-on : (f : ℕ → Bool) (i n : ℕ) → i < n → f i ≡ true → all_from f i (n - i) ≡ all_from f (i + 1) (n - (i + 1))
unfolding all_from
all-on f i n h p =
    let e : n - i ≡ suc (n - (i + 1)) = omega arith in
    let g : suc i ≡ i + 1 = omega arith in
    rw (e, p, g)

pub all_off : (f : ℕ → Bool) (i n : ℕ) → i < n → f i ≡ false → all_from f i (n - i) ≡ false
unfolding all_from
all_off f i n h p = let e : n - i ≡ suc (n - (i + 1)) = omega arith in rw (e, p)

pub all_end : (f : ℕ → Bool) (i n : ℕ) → n ≤ i → all_from f i (n - i) ≡ true
unfolding all_from
all_end f i n h = let e : n - i ≡ 0 = omega arith in rw e

-- the test as a fact about each number, and the other way round
all-at : (f : ℕ → Bool) (i n : ℕ) → all_from f i n ≡ true → (k : ℕ) → k < n → f (i + k) ≡ true
unfolding all_from
all-at f i zero p k h = absurd (omega arith)
all-at f i (suc n) p zero h = rw add-zero (both_pass (f i) _ p).0
all-at f i (suc n) p (suc k) h = let e : i + suc k ≡ suc i + k = omega arith in rw e (all-at f (suc i) n (both_pass (f i) _ p).1 k (omega arith))

all-from : (f : ℕ → Bool) (i n : ℕ) → ((k : ℕ) → k < n → f (i + k) ≡ true) → all_from f i n ≡ true
unfolding all_from
all-from f i zero g = refl
all-from f i (suc n) g =
    let p : f i ≡ true = rw add-zero at (g 0 (omega arith)) in
    rw p (all-from f (suc i) n (λ k h. let e : suc i + k ≡ i + suc k = omega arith in rw e (g (suc k) (omega arith))))

-- tests that agree everywhere
all_alike : (f g : ℕ → Bool) (i n : ℕ) → ((k : ℕ) → k < n → f (i + k) ≡ g (i + k)) → all_from f i n ≡ all_from g i n
unfolding all_from
all_alike f g i zero h = refl
all_alike f g i (suc n) h =
    let p : f i ≡ g i = rw add-zero at (h 0 (omega arith)) in
    rw (p, all_alike f g (suc i) n (λ k l. let e : suc i + k ≡ i + suc k = omega arith in rw e (h (suc k) (omega arith))))

pub all_same : (f g : ℕ → Bool) (n : ℕ) → ((k : ℕ) → k < n → f k ≡ g k) → all_from f 0 n ≡ all_from g 0 n
all_same f g n h = all_alike f g 0 n (λ k l. let e : 0 + k ≡ k = omega arith in rw e (h k l))

pub all_facts : (f : ℕ → Bool) (n : ℕ) → all_from f 0 n ≡ true → (k : ℕ) → k < n → f k ≡ true
all_facts f n p k h = let e : 0 + k ≡ k = omega arith in rw e at (all-at f 0 n p k h)

pub all_test : (f : ℕ → Bool) (n : ℕ) → ((k : ℕ) → k < n → f k ≡ true) → all_from f 0 n ≡ true
all_test f n g = all-from f 0 n (λ k h. let e : 0 + k ≡ k = omega arith in rw e (g k h))
