-- An order of tasks as text (document 02, F-4): one task number on each line. Lines without a word are skipped. If the first of the others
-- is `yes` and a number, it is passed over, so that what the program `playable` writes can be followed.
use Rattle.std.specs.Prelude.{◌≡◌, Bool, cond, ◌&&◌, List, [], ◌∷◌, ℕ, ◌≤◌, eqb, nat_eq, length, get_or, codes, Result, Ok, Err}
use Rattle.std.specs.Cmp.Lexicographic.{pointwise}
use Rattle.codec.specs.Store.{store}
use Rattle.order.specs.declared.WrongLine.{WrongLine}
use Rattle.lines.specs.Asked.{word_at}
use Rattle.lines.specs.Field.{is_number}
use Rattle.lines.specs.Fields.{fields_of}
use Rattle.lines.specs.Lines.{Line, lines_of, numbered}
use Rattle.lines.specs.Rows.{is_row, number_at}
use Rattle.lines.specs.Words.{words_of}

-- `yes`
abbrev pub is_yes_word : List ℕ → Bool
is_yes_word w = pointwise nat_eq w (codes "yes")

-- `yes` and a number
unfoldable pub is_yes : List ℕ → Bool
is_yes line = eqb (length (fields_of line)) 2 && (is_yes_word (get_or (words_of line) 0 []) && is_number (word_at (fields_of line) 1))

unfoldable pub behind_yes : List Line → List Line
behind_yes [] = []
behind_yes (l ∷ ls) = cond (is_yes l.bytes) ls (l ∷ ls)

abbrev pub order_lines : List ℕ → List Line
order_lines text = behind_yes (numbered 1 (lines_of text))

-- the number of the first line that is not one task number, 0 if each is
unfoldable pub wrong_in : List Line → ℕ
wrong_in [] = 0
wrong_in (l ∷ ls) = cond (is_row 1 (fields_of l.bytes)) (wrong_in ls) l.number

abbrev pub wrong_line : List ℕ → ℕ
wrong_line text = wrong_in (order_lines text)

-- the tasks, one for each line
unfoldable pub tasks_in : List Line → List ℕ
tasks_in [] = []
tasks_in (l ∷ ls) = number_at (fields_of l.bytes) 0 ∷ tasks_in ls

abbrev pub tasks_of : List ℕ → List ℕ
tasks_of text = tasks_in (order_lines text)

-- what the reading of some lines answers: their tasks are stored from the start of a buffer, or one of the lines is wrong
abbrev pub TasksRead : List Line → List ℕ → List ℕ → Result ℕ WrongLine → Type 0
TasksRead lines old new (Ok count) = (wrong_in lines ≡ 0) × (count ≡ length (tasks_in lines)) × (new ≡ store old 0 (tasks_in lines))
TasksRead lines old new (Err wrong) = (1 ≤ wrong.0) × (wrong.0 ≡ wrong_in lines)
