-- An order of all accesses has as many steps as there are accesses.
use Rattle.std.specs.Prelude.{◌≡◌, refl, List, [], ◌∷◌, ℕ, zero, suc, ◌+◌, ◌≤◌, ◌<◌, length, get_or, take}
use Rattle.std.proofs.Common.{sym, ap, ◌∙◌, arith, eq-eqb, ne_eqb}
use Rattle.std.proofs.Math.Decide.{dec_lt, ℕ_discrete}
use Rattle.std.proofs.Math.ListN.{get_or-eq_default}
use Rattle.std.proofs.Math.Seq.{take-length}
use Rattle.entries.specs.Accesses.{accesses_in}
use Rattle.entries.proofs.Laws.AccessCount.{accesses-on}
use Rattle.entries.specs.Recording.{Entry}
use Rattle.playability.specs.Order.{times, body_of, Allowed, Plays}
use Rattle.playability.specs.Laws.Counted.{sum_to}

sum_same : (n : ℕ) (f g : ℕ → ℕ) → ((t : ℕ) → t < n → f t ≡ g t) → sum_to n f ≡ sum_to n g
unfolding sum_to
sum_same zero f g h = refl
sum_same (suc n) f g h = omega (arith, sum_same n f g (λ t k. h t (omega arith)), h n (omega arith))

-- one step counts for its own task alone
sum_step : (n u : ℕ) (us : List ℕ) → sum_to n (λ t. times t (u ∷ us)) ≡ sum_to n (λ t. times t us) + sum_to n (λ t. times t (u ∷ []))
unfolding sum_to times
sum_step zero u us = refl
sum_step (suc n) u us = omega (arith, sum_step n u us)

sum_above : (n u : ℕ) → n ≤ u → sum_to n (λ t. times t (u ∷ [])) ≡ 0
unfolding sum_to times
sum_above zero u h = refl
sum_above (suc n) u h = rw (ne_eqb u n (λ e. omega arith)) (omega (arith, sum_above n u (omega arith)))

sum_one : (n u : ℕ) → u < n → sum_to n (λ t. times t (u ∷ [])) ≡ 1
unfolding sum_to times
sum_one zero u h = absurd (omega arith)
sum_one (suc n) u h = elim (ℕ_discrete u n) [
  | yes e ↦ rw (eq-eqb u n e) (omega (arith, sum_above n u (omega (arith, e))))
  | no e ↦ rw (ne_eqb u n e) (omega (arith, sum_one n u (omega (arith, e))))
]

sum-none : (n : ℕ) → sum_to n (λ t. times t []) ≡ 0
unfolding sum_to times
sum-none zero = refl
sum-none (suc n) = omega (arith, sum-none n)

-- a list of tasks below n
counted : (n : ℕ) (order : List ℕ) → ((i : ℕ) → i < length order → get_or order i 0 < n) → length order ≡ sum_to n (λ t. times t order)
counted n [] h = sym (sum-none n)
counted n (u ∷ us) h =
    omega (arith, sum_step n u us, sum_one n u (h 0 (omega arith)), counted n us (λ i k. h (suc i) (omega arith)))

-- the accesses of the bodies
sum-bodies : (bodies : List (List Entry)) (n : ℕ) → n ≤ length bodies → accesses_in (take n bodies) ≡ sum_to n (λ t. length (body_of bodies t))
unfolding sum_to accesses_in
sum-bodies bodies zero h = refl
sum-bodies bodies (suc n) h = omega (arith, accesses-on bodies n h, sum-bodies bodies n (omega arith))

-- an allowed order names tasks of the recording only
pub allowed-below : (bodies : List (List Entry)) (order : List ℕ) → Allowed bodies order → (i : ℕ) → i < length order → get_or order i 0 < length bodies
allowed-below bodies order a i h = elim (dec_lt (get_or order i 0) (length bodies)) [
  | yes k ↦ k
  | no k ↦ absurd (omega (arith, (a i h).left, ap length (get_or-eq_default bodies [] {n = get_or order i 0} (omega (arith, k)))))
]

pub plays-length : (bodies : List (List Entry)) (order : List ℕ) → Plays bodies order → length order ≡ accesses_in bodies
plays-length bodies order p =
    let s = rw (take-length bodies) at (sum-bodies bodies (length bodies) (omega arith)) in
    counted (length bodies) order (allowed-below bodies order p.allowed) ∙ sum_same (length bodies) (λ t. times t order) (λ t. length (body_of bodies t)) (λ t h. p.whole t) ∙ sym s
