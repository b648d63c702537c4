-- An array of one value, with its length as a field: an equation of the list or of its length would be computed element by element.
use Rattle.std.specs.Prelude.{◌≡◌, List, ℕ, length, replicate}

pub record Filled {T : Type 0} (n : ℕ) (x : T) (l : List T) : Type 0 where
  pub filled : l ≡ replicate n x
  pub long : n ≡ length l

-- an array of zeros
abbrev pub Zeros : ℕ → List ℕ → Type 0
Zeros n l = Filled n 0 l
