-- The words of a line: the runs of bytes that are not blanks. A # begins a comment, which goes to the line's end.
use Rattle.std.specs.Prelude.{◌≡◌, Bool, cond, ◌||◌, List, [], ◌∷◌, ◌++◌, ℕ, ◌+◌, ◌<◌, ◌≤◌, eqb, length, take, Option, Some, None}
use Rattle.lines.specs.declared.words.Word.{Word}
use Rattle.lines.specs.Bytes.{index_of}

-- space, tab and carriage return
unfoldable pub is_blank : ℕ → Bool
is_blank b = eqb b 32 || (eqb b 9 || eqb b 13)

-- a byte put in front of the first of several pieces
unfoldable pub front : ℕ → List (List ℕ) → List (List ℕ)
front b [] = (b ∷ []) ∷ []
front b (w ∷ ws) = (b ∷ w) ∷ ws

-- the pieces between blanks; between two blanks in a row there is an empty piece
unfoldable pub pieces_of : List ℕ → List (List ℕ)
pieces_of [] = [] ∷ []
pieces_of (b ∷ bs) = cond (is_blank b) ([] ∷ pieces_of bs) (front b (pieces_of bs))

-- the pieces that are not empty
unfoldable pub filled_of : List (List ℕ) → List (List ℕ)
filled_of [] = []
filled_of ([] ∷ ws) = filled_of ws
filled_of ((b ∷ w) ∷ ws) = (b ∷ w) ∷ filled_of ws

unfoldable pub words_in : List ℕ → List (List ℕ)
words_in l = filled_of (pieces_of l)

-- everything before the comment
unfoldable pub bare_of : List ℕ → List ℕ
bare_of line = take (index_of 35 line) line

abbrev pub words_of : List ℕ → List (List ℕ)
words_of line = words_in (bare_of line)

-- a word at the front of a line, behind blanks, and what follows it: the three are the line
pub record FirstWord (line : List ℕ) (w : Word) : Type 0 where
  pub blanks : List ℕ
  pub parts : line ≡ blanks ++ (w.bytes.now ++ w.rest.now)
  pub found : words_in line ≡ w.bytes.now ∷ words_in w.rest.now
  pub filled : 0 < length w.bytes.now
  pub within : length w.bytes.now + length w.rest.now ≤ length line

-- the next word of a line, if it has one
abbrev pub NextWord : List ℕ → Option Word → Type 0
NextWord line (Some w) = FirstWord line w
NextWord line None = words_in line ≡ []
