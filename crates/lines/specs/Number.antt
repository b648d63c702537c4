-- A word as a number: one or more digits, with a value up to 4,294,967,295.
use Rattle.std.specs.Prelude.{Bool, cond, ◌&&◌, List, [], ◌∷◌, ℕ, ◌+◌, ◌*◌, ◌-◌, leb, ltb, Option, Some, None}
use Rattle.std.specs.Option.{option_and_then}

-- every number is smaller
abbrev pub number_limit : ℕ
number_limit = 4294967296

abbrev pub is_digit : ℕ → Bool
is_digit b = leb 48 b && leb b 57

-- a number with one more digit, unless the byte is none or the number gets too large
unfoldable pub digit_on : ℕ → ℕ → Option ℕ
digit_on v b = cond (is_digit b && ltb (10 * v + (b - 48)) number_limit) (Some (10 * v + (b - 48))) None

unfoldable pub digits_on : ℕ → List ℕ → Option ℕ
digits_on v [] = Some v
digits_on v (b ∷ bs) = option_and_then (λ n. digits_on n bs) (digit_on v b)

unfoldable pub number_of : List ℕ → Option ℕ
number_of [] = None
number_of (b ∷ bs) = digits_on 0 (b ∷ bs)
