-- The sum of a list's entries below a bound: "the sum of Done".
use Rattle.std.specs.Prelude.{List, ℕ, zero, suc, ◌+◌, get_or}

-- the sum of the list's entries below n
unfoldable pub sum_of : List ℕ → ℕ → ℕ
sum_of xs zero = 0
sum_of xs (suc n) = sum_of xs n + get_or xs n 0
