-- Laws of `Zeros`.
use Rattle.std.specs.Prelude.{refl, ℕ, replicate}
use Rattle.std.proofs.Common.{sym}
use Rattle.std.proofs.lemmas.List.{length-replicate}
use Rattle.text.specs.Zeros.{Filled, Zeros}

pub filled_are : {T : Type 0} (n : ℕ) (x : T) → Filled n x (replicate n x)
filled_are n x = record { filled = refl; long = sym (length-replicate n x) }

pub zeros_are : (n : ℕ) → Zeros n (replicate n 0)
zeros_are n = filled_are n 0
