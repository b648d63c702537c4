-- The lines of a text, each ended by a newline, which may be missing at the end of the last. Lines without a word are skipped, but
-- counted.
use Rattle.std.specs.Prelude.{◌≡◌, Bool, cond, List, [], ◌∷◌, ℕ, ◌+◌, ◌-◌, ◌<◌, ◌≤◌, eqb, length, take, drop, Result, Ok, Err}
use Rattle.lines.specs.declared.Next.{Next}
use Rattle.lines.specs.Words.{front, words_of}

unfoldable pub lines_of : List ℕ → List (List ℕ)
lines_of [] = []
lines_of (b ∷ bs) = cond (eqb b 10) ([] ∷ lines_of bs) (front b (lines_of bs))

abbrev pub is_passed : List ℕ → Bool
is_passed line = eqb (length (words_of line)) 0

pub record Line : Type 0 where
  pub number : ℕ
  pub bytes : List ℕ

-- the lines that are not skipped, where the first of all lines has number n
unfoldable pub numbered : ℕ → List (List ℕ) → List Line
numbered n [] = []
numbered n (l ∷ ls) = cond (is_passed l) (numbered (n + 1) ls) (record { number = n; bytes = l } ∷ numbered (n + 1) ls)

-- the lines of a text that are not skipped, where its first line has number n
abbrev pub lines_from : ℕ → List ℕ → List Line
lines_from n text = numbered n (lines_of text)

-- the number of the line after the last
abbrev pub line_behind : ℕ → List ℕ → ℕ
line_behind n text = n + length (lines_of text)

-- the first line that is not skipped, and the text behind its newline
pub record FirstLine (text : List ℕ) (n : ℕ) (f : Next) : Type 0 where
  pub from : ℕ
  pub to : ℕ
  pub ordered : from ≤ to
  pub inside : to ≤ length text
  pub line : f.line.now ≡ take (to - from) (drop from text)
  pub rest : f.rest.now ≡ drop (to + 1) text
  pub found : lines_from n text ≡ record { number = f.number; bytes = f.line.now } ∷ lines_from (f.number + 1) f.rest.now
  pub kept : line_behind (f.number + 1) f.rest.now ≡ line_behind n text
  pub within : length f.line.now + length f.rest.now ≤ length text
  pub shorter : length f.rest.now < length text
  pub counted : f.number + length f.rest.now < n + length text

-- the next line, or the number of the line after the last
abbrev pub NextLine : List ℕ → ℕ → Result Next ℕ → Type 0
NextLine text n (Ok f) = FirstLine text n f
NextLine text n (Err k) = (lines_from n text ≡ []) × (k ≡ line_behind n text)
