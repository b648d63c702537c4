-- Lines are numbered from 1, so 0 can mean that no line stopped the text.
use Rattle.std.specs.Prelude.{List, [], ◌∷◌, ℕ, ◌+◌, ◌≤◌}
use Rattle.std.proofs.Common.{arith}
use Rattle.codec.specs.Laws.Decide.{passes, fails, split}
use Rattle.lines.specs.Lines.{Line, is_passed, numbered}

unfoldable pub Numbered : List Line → Type 0
Numbered [] = Unit {0}
Numbered (l ∷ ls) = (1 ≤ l.number) × Numbered ls

pub numbered-from : (n : ℕ) (ls : List (List ℕ)) → 1 ≤ n → Numbered (numbered n ls)
unfolding numbered Numbered
numbered-from n [] h = tt
numbered-from n (l ∷ ls) h = elim (split (is_passed l)) [
  | passes p ↦ rw p (numbered-from (n + 1) ls (omega arith))
  | fails p ↦ rw p (h, numbered-from (n + 1) ls (omega arith))
]
