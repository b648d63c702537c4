-- The number of digits of a number, and that the kit's digits are these.
use Rattle.std.specs.Prelude.{◌≡◌, refl, Bool, true, false, cond, [], ◌∷◌, ◌++◌, ℕ, zero, suc, ◌+◌, ◌*◌, ◌-◌, ◌/◌, ◌%◌, ◌^◌, ◌<◌, ◌≤◌, leb, ltb, length}
use Rattle.std.proofs.Common.{pow-suc, mod-lt, mod-eq_of_lt, le-div_iff_mul-le, div-lt_iff_lt-mul, arith, lit<, length-append, leb-true, leb-false, lt-ltb, le-ltb}
use Rattle.std.proofs.Math.Nat.{pow-le-pow_right}
use Rattle.io.specs.Digits.{last_digits, hex_digit_ascii, IsDigitCount}
use Rattle.text.specs.Decimal.{digits_within, decimal_of, field_of}

within : (k n : ℕ) → length (digits_within k n) ≤ k
unfolding digits_within
within zero n = omega arith
within (suc k) n = go (within k (n / 10)) (ltb n 10)
  where
    go : length (digits_within k (n / 10)) ≤ k → (b : Bool) → length (cond b ((48 + n) ∷ []) (digits_within k (n / 10) ++ ((48 + n % 10) ∷ []))) ≤ suc k
    go h true = omega arith
    go h false = omega (arith, length-append (digits_within k (n / 10)) ((48 + n % 10) ∷ []))

pub decimal_short : (n : ℕ) → length (decimal_of n) ≤ 20
decimal_short n = within 20 n

glyph_ten : (n : ℕ) → hex_digit_ascii (n % 10) ≡ 48 + n % 10
glyph_ten n = rw (lt-ltb (n % 10) 10 (mod-lt n (omega arith)))

-- the fewest digits that represent a number are its digits without leading zeros
fewest_digits : (j k n : ℕ) → n < 10 ^ suc j → (1 < suc j → 10 ^ j ≤ n) → j < k → last_digits 10 (suc j) n ≡ digits_within k n
unfolding digits_within
fewest_digits j zero n h g l = absurd (omega arith)
fewest_digits zero (suc k) n h g l = let b : n < 10 = h in rw (glyph_ten n, lt-ltb n 10 b, mod-eq_of_lt b)
fewest_digits (suc j) (suc k) n h g l =
    let p : n < 10 ^ suc j * 10 = rw pow-suc at h in
    let q : 10 ^ j * 10 ≤ n = rw pow-suc at (g (omega arith)) in
    let o : 10 ^ 0 ≤ 10 ^ j = pow-le-pow_right (lit< tt) {i = 0} {j = j} (omega arith) in
    let s : 10 ≤ n = omega (arith, q, o) in
    let i : last_digits 10 (suc j) (n / 10) ≡ digits_within k (n / 10) = fewest_digits j k (n / 10) ((div-lt_iff_lt-mul (omega arith)).1 p) (λ _. (le-div_iff_mul-le (omega arith)).1 q) (omega arith) in
    rw (glyph_ten n, le-ltb n 10 s, i)

-- a number of at most 20 digits
short : (n r : ℕ) → n < 10 ^ 20 → IsDigitCount 10 1 n r → r ≤ 20
short n r h f = go (leb r 20) refl
  where
    go : (b : Bool) → leb r 20 ≡ b → r ≤ 20
    go true p = leb-true r 20 p
    go false p =
        let o : 10 ^ 20 ≤ 10 ^ (r - 1) = pow-le-pow_right (lit< tt) {i = 20} {j = r - 1} (omega (arith, leb-false r 20 p)) in
        let g : 10 ^ (r - 1) ≤ n = f.2 (omega (arith, leb-false r 20 p)) in
        absurd (omega (arith, o, g, h))

pub decimal_so : (n r : ℕ) → n < 10 ^ 20 → IsDigitCount 10 1 n r → last_digits 10 r n ≡ decimal_of n
decimal_so n zero h f = absurd (omega (arith, f.0))
decimal_so n (suc j) h f = let e : suc j - 1 ≡ j = omega arith in fewest_digits j 20 n f.1 (λ g. rw e at (f.2 g)) (omega (arith, short n (suc j) h f))

-- a number below a power of ten has at most as many digits as the exponent
digits_few : (k j n : ℕ) → n < 10 ^ suc j → length (digits_within k n) ≤ suc j
unfolding digits_within
digits_few zero j n h = omega arith
digits_few (suc k) zero n h = let b : n < 10 = h in rw (lt-ltb n 10 b) (omega arith)
digits_few (suc k) (suc j) n h =
    let p : n < 10 ^ suc j * 10 = rw pow-suc at h in
    let i : length (digits_within k (n / 10)) ≤ suc j = digits_few k j (n / 10) ((div-lt_iff_lt-mul (omega arith)).1 p) in
    go i (ltb n 10)
  where
    go : length (digits_within k (n / 10)) ≤ suc j → (b : Bool) → length (cond b ((48 + n) ∷ []) (digits_within k (n / 10) ++ ((48 + n % 10) ∷ []))) ≤ suc (suc j)
    go i true = omega arith
    go i false = omega (arith, length-append (digits_within k (n / 10)) ((48 + n % 10) ∷ []))

pub decimal_few : (j n : ℕ) → n < 10 ^ suc j → length (decimal_of n) ≤ suc j
decimal_few j n h = digits_few 20 j n h

pub field-length : (n b : ℕ) → length (field_of n b) ≡ length (decimal_of n) + 1
field-length n b = length-append (decimal_of n) (b ∷ [])
