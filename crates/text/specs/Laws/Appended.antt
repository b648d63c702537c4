-- Putting text together: a byte, nothing, one text after another.
use Rattle.std.specs.Prelude.{◌≡◌, List, [], ◌∷◌, ◌++◌, ℕ, ◌+◌, ◌≤◌, length, set, take}
use Rattle.std.proofs.Common.{sym, ap, ◌∙◌, arith, length-append, length-take-le}
use Rattle.io.specs.Counts.{IsPrefixLen}
use Rattle.codec.specs.Laws.Store.{store-none, store-cons, store_length, store-append}
use Rattle.text.specs.Appended.{Appended}

pub one_byte : (l : List ℕ) (at b : ℕ) → Appended (b ∷ []) l at (set l at b) (at + 1)
one_byte l at b = record { behind = omega arith; filled = sym (store-none (set l at b) (at + 1)) ∙ store-cons l at b [] }

pub nothing : (l : List ℕ) (at : ℕ) → Appended [] l at l at
nothing l at = record { behind = omega arith; filled = sym (store-none l at) }

-- one text after another is the two joined
pub joined : {s t l : List ℕ} {at : ℕ} {m : List ℕ} {mid : ℕ} {r : List ℕ} {end : ℕ} → Appended s l at m mid → Appended t m mid r end → Appended (s ++ t) l at r end
joined {s} {t} {l} {at} a b = record {
  behind = omega (arith, a.behind, b.behind, length-append s t);
  filled = b.filled ∙ rw (a.filled, a.behind) (store-append l at s t);
}

-- a buffer keeps its length
pub same_room : {text before : List ℕ} {at : ℕ} {after : List ℕ} {end : ℕ} → Appended text before at after end → length after ≡ length before
same_room {text} {before} {at} a = ap length a.filled ∙ store_length before at text

-- a text at the start of a buffer can be passed on as its first bytes
pub counted : {text before : List ℕ} {after : List ℕ} {end : ℕ} → Appended text before 0 after end → length text ≤ length before → IsPrefixLen end after
counted {text} {after = after} {end = end} a h = let w : end ≤ length after = omega (arith, a.behind, same_room a) in (w, sym (length-take-le _ _ w))
