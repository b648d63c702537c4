-- What the counts of bytes and numbers in a buffer say.
use Rattle.std.specs.Prelude.{◌≡◌, ℕ, ◌≤◌, List, Option, IfSome, length, take}
use Rattle.std.specs.Borrow.{Bor}

-- `&xs[..n]` is in bounds and has n elements. The second part follows from the first, and spares a caller's `&buffer[..n]` a proof file.
abbrev pub IsPrefixLen : ℕ → List ℕ → Type 0
IsPrefixLen n xs = (n ≤ length xs) × (n ≡ length (take n xs))

-- what was read, if anything was, is no longer than the buffer that it lies in
abbrev pub FitsIn : Option (Bor (List ℕ)) → List ℕ → Type 0
FitsIn bytes buffer = IfSome bytes (λ read. length read.now ≤ length buffer)
