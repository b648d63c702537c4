-- A list processed one entry at a time: each compared, each copied.
use Rattle.std.specs.Prelude.{◌≡◌, true, false, List, ℕ, ◌+◌, ◌≤◌, ◌<◌, length, get_or, take, drop, set}
use Rattle.std.proofs.Common.{◌∙◌, sym, arith, drop_of_length-le, drop-cons, take-suc, take-suc-set, take_all}
use Rattle.std.proofs.Math.Numerals.{add-one}
use borrow.Author.Tests.{lt-ltb, le-ltb}
use Rattle.reader.specs.Parse.{all_below}

-- each entry below a number
module _ (t i : ℕ) (l : List ℕ) where
  pub below_on : i < length l → get_or l i 0 < t → all_below t (drop i l) ≡ all_below t (drop (i + 1) l)
  unfolding all_below
  below_on h k = rw (drop-cons l i 0 h, add-one, lt-ltb (get_or l i 0) t k)

  pub below_off : i < length l → t ≤ get_or l i 0 → all_below t (drop i l) ≡ false
  unfolding all_below
  below_off h k = rw (drop-cons l i 0 h, le-ltb (get_or l i 0) t k)

  pub below_end : length l ≤ i → all_below t (drop i l) ≡ true
  unfolding all_below
  below_end h = rw (drop_of_length-le l h)

-- a list copied over another of its length, element by element
pub copy_more : (to from : List ℕ) (i : ℕ) → length to ≡ length from → i < length from → take i to ≡ take i from
    → take (i + 1) (set to i (get_or from i 0)) ≡ take (i + 1) from
copy_more to from i l h e = rw (add-one, take-suc-set to i (get_or from i 0) (omega arith), take-suc from i 0 h, e)

pub copy_end : (to from : List ℕ) (i : ℕ) → length to ≡ length from → length from ≤ i → take i to ≡ take i from → to ≡ from
copy_end to from i l h e = sym (take_all i to (omega arith)) ∙ e ∙ take_all i from h
