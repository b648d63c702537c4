-- An order of tasks, read line by line into a buffer.
use Rattle.std.specs.Prelude.{◌≡◌, refl, true, false, cond, List, [], ◌∷◌, ℕ, ◌+◌, ◌<◌, ◌≤◌, length, get_or, set, Option, Some, None}
use Rattle.std.proofs.Common.{◌∙◌, arith, eq-eqb, ne_eqb}
use Rattle.std.proofs.Math.Bool.{and-false}
use Rattle.std.proofs.lemmas.List.Edits.{sets}
use Rattle.std.proofs.Math.Path.{sym}
use Rattle.std.proofs.lemmas.Option.{none-some, same_Some}
use Rattle.codec.specs.Laws.Decide.{passes, fails, split}
use Rattle.codec.specs.Store.{store}
use Rattle.codec.specs.Laws.Store.{store-none, store-cons}
use Rattle.lines.specs.declared.field.Field.{Field}
use Rattle.lines.specs.Asked.{word_at}
use Rattle.lines.specs.Field.{is_number}
use Rattle.lines.specs.Fields.{fields_of}
use Rattle.lines.specs.Laws.RowCode.{row_at}
use Rattle.lines.specs.Laws.Rows.{numbers_facts, numbers_bad, value_at}
use Rattle.lines.specs.Lines.{Line, lines_of, numbered}
use Rattle.lines.specs.Rows.{is_row, number_at, numbers_of}
use Rattle.lines.specs.Words.{words_of}
use Rattle.order.specs.Order.{is_yes_word, is_yes, behind_yes, order_lines, wrong_in, tasks_in}

-- whether a line is `yes` and a number, as the code reads it from a row of two
module _ (line : List ℕ) where
  pub yes-short : (length (fields_of line) ≡ 2 → ⊥) → is_yes line ≡ false
  unfolding is_yes
  yes-short h = rw (ne_eqb (length (fields_of line)) 2 h)

  pub yes-other : is_yes_word (get_or (words_of line) 0 []) ≡ false → is_yes line ≡ false
  unfolding is_yes
  yes-other h = rw h (and-false _)

  pub yes_so : (row now : List Field) → now ≡ sets row 0 (fields_of line) → length (fields_of line) ≡ 2 → is_yes_word (get_or (words_of line) 0 []) ≡ true → 2 ≤ length row
      → is_number (word_at now 1) ≡ is_yes line
  unfolding is_yes
  yes_so row now g e y h = rw (g, row_at row (fields_of line) 1 (omega arith) (omega arith), eq-eqb (length (fields_of line)) 2 e, y)

-- the task number of a line
abbrev pub task_of : List ℕ → Option ℕ
task_of line = cond (is_row 1 (fields_of line)) (Some (number_at (fields_of line) 0)) None

pub task-read : (line row : List ℕ) → numbers_of 1 (fields_of line) ≡ Some row → Some (get_or row 0 0) ≡ task_of line
task-read line row e = let n = numbers_facts 1 (fields_of line) row e in rw (n.0, n.1, value_at (fields_of line) 0)

pub task-missing : (line : List ℕ) → numbers_of 1 (fields_of line) ≡ None → task_of line ≡ None
task-missing line e = rw (numbers_bad 1 (fields_of line) e)

pub task-number : (line : List ℕ) (t : ℕ) → task_of line ≡ Some t → (is_row 1 (fields_of line) ≡ true) × (t ≡ number_at (fields_of line) 0)
task-number line t e = elim (split (is_row 1 (fields_of line))) [
  | passes p ↦ (p, sym (same_Some _ _ (rw p at e)))
  | fails p ↦ absurd (none-some _ (rw p at e))
]

pub task-none : (line : List ℕ) → task_of line ≡ None → is_row 1 (fields_of line) ≡ false
task-none line e = elim (split (is_row 1 (fields_of line))) [
  | passes p ↦ absurd (none-some _ (sym (rw p at e)))
  | fails p ↦ p
]

-- of some lines' tasks this many are in the buffer, and each line up to there is right; the other lines are left
pub record Taken (lines : List Line) (tasks : List ℕ) (left : List Line) (count : ℕ) (now : List ℕ) : Type 0 where
  pub same : wrong_in left ≡ wrong_in lines
  pub counted : count + length (tasks_in left) ≡ length (tasks_in lines)
  pub held : store now count (tasks_in left) ≡ store tasks 0 (tasks_in lines)

pub taken_none : (lines : List Line) (tasks : List ℕ) → Taken lines tasks lines 0 tasks
taken_none lines tasks = record { same = refl; counted = omega arith; held = refl }

module _ (lines : List Line) (tasks : List ℕ) (left : List Line) (count : ℕ) (now : List ℕ) (t : Taken lines tasks left count now) where
  pub taken-all : left ≡ [] → (0 ≡ wrong_in lines) × (count ≡ length (tasks_in lines)) × (now ≡ store tasks 0 (tasks_in lines))
  unfolding wrong_in tasks_in
  taken-all e = (rw e at t.same, omega (arith, rw e at t.counted), sym (store-none now count) ∙ rw e at t.held)

  module _ (l : Line) (rest : List Line) (e : left ≡ l ∷ rest) where
    pub taken_room : count < length (tasks_in lines)
    unfolding tasks_in
    taken_room = omega (arith, rw e at t.counted)

    pub taken_wrong : is_row 1 (fields_of l.bytes) ≡ false → l.number ≡ wrong_in lines
    unfolding wrong_in
    taken_wrong p = (rw (e, p)) ∙ t.same

    pub taken_more : (v : ℕ) → is_row 1 (fields_of l.bytes) ≡ true → v ≡ number_at (fields_of l.bytes) 0 → Taken lines tasks rest (count + 1) (set now count v)
    unfolding wrong_in tasks_in
    taken_more v p g = record {
      same = rw (e, p) at t.same;
      counted = omega (arith, rw e at t.counted);
      held = rw g (store-cons now count (number_at (fields_of l.bytes) 0) (tasks_in rest)) ∙ rw e at t.held;
    }

-- the first line: the tasks are in the lines behind it, or in all lines
module _ (text : List ℕ) (l : Line) (rest : List Line) (e : numbered 1 (lines_of text) ≡ l ∷ rest) where
  pub order-behind : is_yes l.bytes ≡ true → rest ≡ order_lines text
  unfolding behind_yes
  order-behind y = rw (e, y)

  pub order-whole : is_yes l.bytes ≡ false → numbered 1 (lines_of text) ≡ order_lines text
  unfolding behind_yes
  order-whole y = rw (e, y)

pub order-none : (text : List ℕ) → numbered 1 (lines_of text) ≡ [] → numbered 1 (lines_of text) ≡ order_lines text
unfolding behind_yes
order-none text e = rw e
