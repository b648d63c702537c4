-- The part of a list from one index up to another, as far as the list goes.
use Rattle.std.specs.Prelude.{List, ℕ, ◌-◌, take, drop}

unfoldable pub part : ℕ → ℕ → List ℕ → List ℕ
part from to b = take (to - from) (drop from b)
