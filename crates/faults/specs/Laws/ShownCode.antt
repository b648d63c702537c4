-- A word as the code shows it, byte by byte.
use Rattle.std.specs.Prelude.{◌≡◌, true, false, ◌&&◌, List, [], ◌∷◌, map, ℕ, ◌+◌, ◌<◌, ◌≤◌, leb, length, get_or, take, set}
use Rattle.std.specs.Char.{is_ascii_graphic}
use Rattle.std.proofs.Common.{add-one, arith, le-leb, take-suc}
use Rattle.std.proofs.lemmas.List.{map-append}
use Rattle.std.proofs.lemmas.Bool.{lt-leb}
use Rattle.text.specs.Appended.{Appended}
use Rattle.text.specs.Laws.Appended.{nothing, one_byte, joined}
use Rattle.faults.specs.Shown.{shown_byte, shown_of, dots_word}

-- a byte that is a visible character, or not
module _ (b : ℕ) where
  pub shown_so : is_ascii_graphic b ≡ true → shown_byte b ≡ b
  unfolding shown_byte
  shown_so h = let e : (leb 33 b && leb b 126) ≡ true = h in rw e

  pub hidden : is_ascii_graphic b ≡ false → shown_byte b ≡ 63
  unfolding shown_byte
  hidden h = let e : (leb 33 b && leb b 126) ≡ false = h in rw e

-- a word's bytes, one by one
pub shown-none : (out : List ℕ) (at : ℕ) → Appended [] out at out (at + 0)
shown-none out at = let z : at + 0 ≡ at = omega arith in rw z (nothing out at)

pub shown-more : {out now : List ℕ} {at : ℕ} (w : List ℕ) (i : ℕ) → i < length w → Appended (map shown_byte (take i w)) out at now (at + i)
    → Appended (map shown_byte (take (i + 1) w)) out at (set now (at + i) (shown_byte (get_or w i 0))) (at + (i + 1))
shown-more {now = now} {at = at} w i h a =
    let e : at + (i + 1) ≡ at + i + 1 = omega arith in
    rw (e, add-one i, take-suc w i 0 h, map-append shown_byte (take i w) (get_or w i 0 ∷ [])) (joined a (one_byte now (at + i) (shown_byte (get_or w i 0))))

-- the whole word, or its first bytes
pub shown-whole : {out now : List ℕ} {at end : ℕ} (w : List ℕ) → length w ≤ 20 → Appended (map shown_byte w) out at now end → Appended (shown_of w) out at now end
unfolding shown_of
shown-whole w h a = rw (le-leb (length w) 20 h) a

pub shown-cut : {out mid now : List ℕ} {at place end : ℕ} (w : List ℕ) → 20 < length w
    → Appended (map shown_byte (take 20 w)) out at mid place → Appended dots_word mid place now end → Appended (shown_of w) out at now end
unfolding shown_of
shown-cut w h a b = rw (lt-leb (length w) 20 h) (joined a b)
