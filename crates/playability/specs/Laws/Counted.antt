-- An order of all accesses has as many steps as there are accesses.
use Rattle.std.specs.Prelude.{ℕ, zero, suc, ◌+◌}

-- f at 0, 1, .., n - 1, added up
unfoldable pub sum_to : ℕ → (ℕ → ℕ) → ℕ
sum_to zero f = 0
sum_to (suc n) f = sum_to n f + f n
