-- The ready word represents the ready tasks; its number of ones is their count, and its trailing zeros give the lowest.
use Rattle.std.specs.Prelude.{Bool, true, false, ◌≡◌, refl, ℕ, zero, suc, ◌+◌, ◌*◌, ◌/◌, ◌%◌, ◌^◌, ◌≤◌, ◌<◌, ◌-◌, eqb}
use Rattle.std.proofs.Common.{ap, ◌∙◌, sym, pow-suc, le_of_suc-le-suc, not-suc-le-zero, add-zero, arith, pow_mono}
use Rattle.std.specs.Int.Count.{ones, ones_step, count_trailing_zeros, under}
use Rattle.codec.specs.Bit.{bit}
use Rattle.replayer.specs.Word.{word_of, has_bit, count_of, skip, lowest_in, ready_count, lowest_ready}

pub bit_low : (b : Bool) → bit b ≤ 1
bit_low true = omega arith
bit_low false = omega arith

bit_back : (b : Bool) → eqb (bit b) 1 ≡ b
bit_back true = refl
bit_back false = refl

word_none : (f : ℕ → Bool) (i : ℕ) → word_of f i 0 ≡ 0
unfolding word_of
word_none f i = refl

word_more : (f : ℕ → Bool) (i n : ℕ) → word_of f i (suc n) ≡ bit (f i) + 2 * word_of f (suc i) n
unfolding word_of
word_more f i n = refl

word_half : (f : ℕ → Bool) (i n : ℕ) → word_of f i (suc n) / 2 ≡ word_of f (suc i) n
unfolding word_of
word_half f i n = omega (arith, bit_low (f i))

word_odd : (f : ℕ → Bool) (i n : ℕ) → word_of f i (suc n) % 2 ≡ bit (f i)
unfolding word_of
word_odd f i n = omega (arith, bit_low (f i))

word_fits : (f : ℕ → Bool) (i n : ℕ) → word_of f i n < 2 ^ n
unfolding word_of
word_fits f i zero = omega arith
word_fits f i (suc n) = rw pow-suc (omega (arith, word_fits f (suc i) n, bit_low (f i)))

-- the word 0 has no bit set
pub zero_bit : (t : ℕ) → has_bit 0 t ≡ false
unfolding has_bit
zero_bit zero = refl
zero_bit (suc t) = zero_bit t

-- bit t of the word is the test of task i + t, for each of the n tasks
pub word-bit : (f : ℕ → Bool) (i n t : ℕ) → t < n → has_bit (word_of f i n) t ≡ f (i + t)
unfolding has_bit
word-bit f i zero t h = absurd (omega arith)
word-bit f i (suc n) zero h = rw (word_odd f i n, add-zero) (bit_back (f i))
word-bit f i (suc n) (suc t) h = let e : i + suc t ≡ suc i + t = omega arith in rw (word_half f i n, e) (word-bit f (suc i) n t (omega arith))

pub word_above : (f : ℕ → Bool) (i n t : ℕ) → n ≤ t → has_bit (word_of f i n) t ≡ false
unfolding has_bit
word_above f i zero t h = rw word_none (zero_bit t)
word_above f i (suc n) zero h = absurd (omega arith)
word_above f i (suc n) (suc t) h = rw (word_half f i n) (word_above f (suc i) n t (omega arith))

-- a word is the word made of its bits
word_shift : (f : ℕ → Bool) (i n : ℕ) → word_of f (suc i) n ≡ word_of (λ t. f (suc t)) i n
unfolding word_of
word_shift f i zero = refl
word_shift f i (suc n) = ap (λ (w : ℕ). bit (f (suc i)) + 2 * w) (word_shift f (suc i) n)

odd_bit : (w : ℕ) → bit (eqb (w % 2) 1) ≡ w % 2
odd_bit w = go (w % 2) (omega arith)
  where
    go : (r : ℕ) → r < 2 → bit (eqb r 1) ≡ r
    go zero h = refl
    go (suc zero) h = refl
    go (suc (suc r)) h = absurd (omega arith)

word_self : (w n : ℕ) → w < 2 ^ n → word_of (has_bit w) 0 n ≡ w
unfolding word_of has_bit
word_self w zero h = omega arith
word_self w (suc n) h =
    let p : w < 2 ^ n * 2 = rw pow-suc at h in
    let q : word_of (has_bit w) 1 n ≡ w / 2 = word_shift (has_bit w) 0 n ∙ word_self (w / 2) n (omega arith) in
    rw (odd_bit, q) (omega arith)

ones_zero : ones 0 ≡ 0
unfolding ones
ones_zero = refl

word_ones : (f : ℕ → Bool) (i n : ℕ) → ones (word_of f i n) ≡ count_of f i n
unfolding count_of
word_ones f i zero = rw word_none ones_zero
word_ones f i (suc n) = ones_step (word_of f i (suc n)) ∙ rw (word_odd f i n, word_half f i n, word_ones f (suc i) n)

zeros-none : (k : ℕ) → count_trailing_zeros k 0 ≡ k
unfolding count_trailing_zeros
zeros-none zero = refl
zeros-none (suc k) = ap suc (zeros-none k)

zeros-step : (k w : ℕ) → count_trailing_zeros (suc k) w ≡ under (w % 2) (count_trailing_zeros k (w / 2))
unfolding count_trailing_zeros
zeros-step k w = refl

word-zeros : (k : ℕ) (f : ℕ → Bool) (i n : ℕ) → n ≤ k → count_trailing_zeros k (word_of f i n) ≡ lowest_in k f i n
unfolding lowest_in
word-zeros k f i zero h = rw word_none (zeros-none k)
word-zeros zero f i (suc n) h = absurd (not-suc-le-zero h)
word-zeros (suc k) f i (suc n) h = zeros-step k (word_of f i (suc n)) ∙ rw (word_odd f i n, word_half f i n, word-zeros k f (suc i) n (le_of_suc-le-suc h)) (cases (f i))
  where
    cases : (b : Bool) → under (bit b) (lowest_in k f (suc i) n) ≡ skip b (lowest_in k f (suc i) n)
    cases true = refl
    cases false = refl

-- the machine's bit counts
pub count_ones : (w : ℕ) → w < 2 ^ 16 → ones w ≡ ready_count w
count_ones w h = ap ones (sym (word_self w 16 h)) ∙ word_ones (has_bit w) 0 16

pub count_zeros : (w : ℕ) → w < 2 ^ 16 → count_trailing_zeros 16 w ≡ lowest_ready w
count_zeros w h = ap (count_trailing_zeros 16) (sym (word_self w 16 h)) ∙ word-zeros 16 (has_bit w) 0 16 (omega arith)

-- for a ready word they are the number of ready tasks and the lowest of them
module _ (f : ℕ → Bool) (n : ℕ) (h : n ≤ 16) where
  word_small : word_of f 0 n < 2 ^ 16
  word_small = omega (arith, word_fits f 0 n, pow_mono {i = n} {j = 16} h)

  pub word_count : ready_count (word_of f 0 n) ≡ count_of f 0 n
  word_count = sym (count_ones (word_of f 0 n) word_small) ∙ word_ones f 0 n

  pub word-lowest : lowest_ready (word_of f 0 n) ≡ lowest_in 16 f 0 n
  word-lowest = sym (count_zeros (word_of f 0 n) word_small) ∙ word-zeros 16 f 0 n h

-- the loop that makes the word goes from the highest task down
pub word_down : (f : ℕ → Bool) (t n : ℕ) → 0 < t → t ≤ n → bit (f (t - 1)) + 2 * word_of f t (n - t) ≡ word_of f (t - 1) (n - (t - 1))
word_down f t n p h =
    let e : n - (t - 1) ≡ suc (n - t) = omega arith in
    let g : suc (t - 1) ≡ t = omega arith in
    rw (e, word_more, g)

pub word_room : (f : ℕ → Bool) (t n : ℕ) → 0 < t → n ≤ 16 → word_of f t (n - t) < 32768
word_room f t n p h = omega (arith, word_fits f t (n - t), pow_mono {i = n - t} {j = 15} (omega arith))

pub word-start : (f : ℕ → Bool) (n : ℕ) → 0 ≡ word_of f n (n - n)
word-start f n = let e : n - n ≡ 0 = omega arith in rw (e, word_none)

pub word-whole : (f : ℕ → Bool) (t n : ℕ) → t ≤ 0 → word_of f t (n - t) ≡ word_of f 0 n
word-whole f t n h = let e : t ≡ 0 = omega arith in let g : n - 0 ≡ n = omega arith in rw (e, g)
