-- Bytes written into a list starting at an index; the bytes before and after them stay as they were.
use Rattle.std.specs.Prelude.{List, ℕ}
use Rattle.std.proofs.lemmas.List.Edits.{sets}

unfoldable pub store : List ℕ → ℕ → List ℕ → List ℕ
store l at bs = sets l at bs
