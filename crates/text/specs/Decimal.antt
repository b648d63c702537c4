-- A number as text: its decimal digits in ASCII, the most significant first, without leading zeros.
use Rattle.std.specs.Prelude.{cond, List, [], ◌∷◌, ◌++◌, ℕ, zero, suc, ◌+◌, ◌/◌, ◌%◌, ltb}

-- at most this many digits
unfoldable pub digits_within : ℕ → ℕ → List ℕ
digits_within zero n = []
digits_within (suc k) n = cond (ltb n 10) ((48 + n) ∷ []) (digits_within k (n / 10) ++ ((48 + n % 10) ∷ []))

-- 64 bits have at most 20 digits
abbrev pub decimal_of : ℕ → List ℕ
decimal_of n = digits_within 20 n

-- a number and the byte after it
abbrev pub field_of : ℕ → ℕ → List ℕ
field_of n b = decimal_of n ++ (b ∷ [])
