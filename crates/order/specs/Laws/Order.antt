-- Laws of `Order`: how many tasks a text can give, and the numbers of its lines.
use Rattle.std.specs.Prelude.{◌≡◌, refl, List, [], ◌∷◌, ℕ, suc, ◌+◌, ◌*◌, ◌≤◌, eqb, length}
use Rattle.std.proofs.Common.{arith}
use Rattle.lines.specs.Bytes.{index_of}
use Rattle.codec.specs.Laws.Decide.{passes, fails, split}
use Rattle.lines.specs.Lines.{Line, lines_of, is_passed, numbered}
use Rattle.lines.specs.Words.{front, bare_of, words_in, pieces_of, filled_of}
use Rattle.order.specs.Order.{is_yes, behind_yes, tasks_in, tasks_of}

-- the bytes of some lines, each with its newline
bytes_of : List (List ℕ) → ℕ
bytes_of [] = 0
bytes_of (l ∷ ls) = length l + 1 + bytes_of ls

bytes-front : (b : ℕ) (ls : List (List ℕ)) (n : ℕ) → bytes_of ls ≤ n + 1 → bytes_of (front b ls) ≤ suc n + 1
unfolding front bytes_of
bytes-front b [] n h = omega arith
bytes-front b (l ∷ ls) n h = omega arith

bytes-within : (text : List ℕ) → bytes_of (lines_of text) ≤ length text + 1
unfolding lines_of bytes_of
bytes-within [] = omega arith
bytes-within (b ∷ bs) = elim (split (eqb b 10)) [
  | passes p ↦ rw p (omega (arith, bytes-within bs))
  | fails p ↦ rw p (bytes-front b (lines_of bs) (length bs) (bytes-within bs))
]

-- a line that is not skipped has a byte
numbered-few : (n : ℕ) (ls : List (List ℕ)) → 2 * length (numbered n ls) ≤ bytes_of ls
unfolding numbered bytes_of bare_of words_in pieces_of filled_of index_of
numbered-few n [] = omega arith
numbered-few n ([] ∷ ls) = omega (arith, numbered-few (n + 1) ls)
numbered-few n ((b ∷ l) ∷ ls) = elim (split (is_passed (b ∷ l))) [
  | passes p ↦ rw p (omega (arith, numbered-few (n + 1) ls))
  | fails p ↦ rw p (omega (arith, numbered-few (n + 1) ls))
]

behind-few : (ls : List Line) → length (behind_yes ls) ≤ length ls
unfolding behind_yes
behind-few [] = omega arith
behind-few (l ∷ ls) = elim (split (is_yes l.bytes)) [
  | passes p ↦ rw p (omega arith)
  | fails p ↦ rw p (omega arith)
]

tasks-length : (ls : List Line) → length (tasks_in ls) ≡ length ls
unfolding tasks_in
tasks-length [] = refl
tasks-length (l ∷ ls) = omega (arith, tasks-length ls)

pub order-few : (text : List ℕ) → 2 * length (tasks_of text) ≤ length text + 1
order-few text =
    let ls = numbered 1 (lines_of text) in
    omega (arith, tasks-length (behind_yes ls), behind-few ls, numbered-few 1 (lines_of text), bytes-within text)

-- every line has this number or a larger one
NumberedFrom : ℕ → List Line → Type 0
NumberedFrom n [] = Unit {0}
NumberedFrom n (l ∷ ls) = (n ≤ l.number) × NumberedFrom n ls

numbered-on : (n m : ℕ) (ls : List (List ℕ)) → n ≤ m → NumberedFrom n (numbered m ls)
unfolding numbered NumberedFrom
numbered-on n m [] h = tt
numbered-on n m (l ∷ ls) h = elim (split (is_passed l)) [
  | passes p ↦ rw p (numbered-on n (m + 1) ls (omega arith))
  | fails p ↦ rw p (h, numbered-on n (m + 1) ls (omega arith))
]

-- the first of the lines from number n on has number n or a larger one
pub first-from : (n : ℕ) (ls : List (List ℕ)) (l : Line) (rest : List Line) → numbered n ls ≡ l ∷ rest → n ≤ l.number
unfolding NumberedFrom
first-from n ls l rest e = (rw e at (numbered-on n n ls (omega arith))).0
