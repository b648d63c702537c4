-- Laws of `Each`.
use Rattle.std.specs.Prelude.{◌≡◌, List, ℕ, ◌≤◌, length, take}
use Rattle.pending.specs.Each.{each}

-- a list of n entries that is filled up to index i
pub record Filled {A : Type 0} (f : ℕ → A) (n : ℕ) (l : List A) (i : ℕ) : Type 0 where
  pub within : i ≤ n
  pub long : length l ≡ n
  pub front : take i l ≡ each f i
