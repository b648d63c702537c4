-- Laws of `Lines`.
use Rattle.std.specs.Prelude.{◌≡◌, refl, Bool, true, false, cond, List, [], ◌∷◌, ℕ, ◌+◌, ◌-◌, ◌<◌, ◌≤◌, eqb, ltb, length, take, drop}
use Rattle.std.proofs.Common.{ap, ◌∙◌, add-one, arith, ltb-true, ltb-false, length-drop, drop_of_length-le, drop-cons, drop-drop}
use Rattle.codec.specs.Laws.Decide.{passes, fails, split}
use Rattle.lines.specs.Bytes.{index_after, index_of}
use Rattle.lines.specs.Words.{front}
use Rattle.lines.specs.Lines.{lines_of, is_passed, numbered, lines_from, line_behind}

-- what is left after the first line begins with its newline
behind : List ℕ → List (List ℕ)
behind [] = []
behind (b ∷ bs) = lines_of bs

line-cons : (b c : ℕ) (bs : List ℕ) (t : Bool) → lines_of (c ∷ bs) ≡ take (index_of 10 (c ∷ bs)) (c ∷ bs) ∷ behind (drop (index_of 10 (c ∷ bs)) (c ∷ bs))
    → cond t ([] ∷ lines_of (c ∷ bs)) (front b (lines_of (c ∷ bs))) ≡ take (index_after t (index_of 10 (c ∷ bs))) (b ∷ c ∷ bs) ∷ behind (drop (index_after t (index_of 10 (c ∷ bs))) (b ∷ c ∷ bs))
unfolding front index_after behind
line-cons b c bs true h = refl
line-cons b c bs false h = rw h

line_one : (b : ℕ) (t : Bool) → cond t ([] ∷ lines_of []) (front b (lines_of [])) ≡ take (index_after t (index_of 10 [])) (b ∷ []) ∷ behind (drop (index_after t (index_of 10 [])) (b ∷ []))
unfolding front index_after behind lines_of index_of
line_one b true = refl
line_one b false = refl

line_first : (b : ℕ) (bs : List ℕ) → lines_of (b ∷ bs) ≡ take (index_of 10 (b ∷ bs)) (b ∷ bs) ∷ behind (drop (index_of 10 (b ∷ bs)) (b ∷ bs))
unfolding lines_of index_of
line_first b [] = line_one b (eqb b 10)
line_first b (c ∷ bs) = line-cons b c bs (eqb b 10) (line_first c bs)

behind-from : (at : ℕ) (l : List ℕ) → behind (drop at l) ≡ lines_of (drop (at + 1) l)
unfolding behind lines_of
behind-from at l = elim (split (ltb at (length l))) [
  | passes p ↦ rw (drop-cons l at 0 (ltb-true _ _ p), add-one)
  | fails p ↦ let k : length l ≤ at = ltb-false _ _ p in rw (drop_of_length-le l k, drop_of_length-le {A = ℕ} l {i = at + 1} (omega arith))
]

-- a text's first line, and the text behind it
module _ (text line rest : List ℕ) (n : ℕ) (h : 0 < length text) (e : line ≡ take (index_of 10 text) text) (g : rest ≡ drop (index_of 10 text + 1) text) where
  lines-first : lines_of text ≡ line ∷ lines_of rest
  lines-first = first text h ∙ rw (e, g, behind-from (index_of 10 text) text)
    where
      first : (l : List ℕ) → 0 < length l → lines_of l ≡ take (index_of 10 l) l ∷ behind (drop (index_of 10 l) l)
      first [] k = absurd (let z : ⊥ = omega arith in z)
      first (b ∷ bs) k = line_first b bs

  pub line-held : is_passed line ≡ false → lines_from n text ≡ record { number = n; bytes = line } ∷ lines_from (n + 1) rest
  unfolding numbered
  line-held p = rw (lines-first, p)

  pub line-passed : is_passed line ≡ true → lines_from n text ≡ lines_from (n + 1) rest
  unfolding numbered
  line-passed p = rw (lines-first, p)

  pub line-counted : line_behind (n + 1) rest ≡ line_behind n text
  line-counted = rw lines-first (omega arith)

pub lines_none : (n : ℕ) (text : List ℕ) → length text ≡ 0 → (lines_from n text ≡ []) × (n ≡ line_behind n text)
unfolding numbered lines_of
lines_none n [] h = (refl, omega arith)
lines_none n (b ∷ bs) h = absurd (let z : ⊥ = omega arith in z)

-- what is left of a text, from an offset on
pub record Left (text left : List ℕ) : Type 0 where
  pub at : ℕ
  pub is : left ≡ drop at text

pub left_all : (text : List ℕ) → Left text text
left_all text = record { at = 0; is = refl }

-- a first line of what is left is a part of the text, which ends within it
module _ (text left line rest : List ℕ) (l : Left text left) (e : line ≡ take (length line) left) (g : rest ≡ drop (length line + 1) left) where
  pub left-line : line ≡ take (l.at + length line - l.at) (drop l.at text)
  left-line = let n : l.at + length line - l.at ≡ length line = omega arith in rw (n, ← l.is) e

  pub left-rest : rest ≡ drop (l.at + length line + 1) text
  left-rest = g ∙ rw (l.is, drop-drop) (ap (λ (i : ℕ). drop i text) (omega arith))

  pub left_on : Left text rest
  left_on = record { at = l.at + length line + 1; is = left-rest }

  pub left-inside : 0 < length left → length line ≤ length left → l.at + length line ≤ length text
  left-inside h k = omega (arith, ap length l.is, length-drop l.at text)
