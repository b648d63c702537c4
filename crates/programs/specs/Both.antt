-- BOTH PROGRAMS: what `replay` writes for a recording that `record` made from a text. One line for each access of the text, then `end`
-- with their number, then the memory that the text leaves.
use Rattle.std.specs.Prelude.{true, cond, List, [], ◌∷◌, ◌++◌, map, ◌≡◌, ℕ, suc, eqb, length}
use Rattle.codec.specs.Cell.{object_at, field_at}
use Rattle.history.specs.Access.{Access}
use Rattle.history.specs.Entry.{Act, read, write, acquire, Entry}
use Rattle.history.specs.History.{History}
use Rattle.history.specs.Replay.{one_more}
use Rattle.faults.specs.Reading.{text_sizes}
use Rattle.fidelity.specs.Box.{Opening, Asked, recorded}
use Rattle.lines.specs.AccessLines.{access_lines}
use Rattle.lines.specs.Rows.{has_fields}
use Rattle.script.specs.RecordOf.{record_of}
use Rattle.text.specs.Decimal.{field_of}
use Rattle.replay_lines.specs.Lines.{end_line, memory_of}
use Rattle.transcript.specs.Text.{text_of}
use Rattle.programs.specs.Wanted.{wanted_in, wanted_by}

-- the object of a cell, and its field if objects have fields
unfoldable pub cell_text : ℕ → ℕ → List ℕ
cell_text fields cell = field_of (object_at fields cell) 32 ++ cond (eqb fields 0) [] (field_of (field_at fields cell) 32)

-- the line of an access: task, number, R or W, object and field, value
unfoldable pub access_line : ℕ → ℕ → ℕ → Act → List ℕ
access_line fields t k (read cell value) = field_of t 32 ++ field_of k 32 ++ (82 ∷ 32 ∷ []) ++ cell_text fields cell ++ field_of value 10
access_line fields t k (write cell value) = field_of t 32 ++ field_of k 32 ++ (87 ∷ 32 ∷ []) ++ cell_text fields cell ++ field_of value 10
access_line fields t k (acquire number) = []

-- the lines for steps of these tasks, when each task has already done some accesses: each line is the task's next access
pub data Lines (fields : ℕ) (h : History) : (ℕ → ℕ) → List ℕ → List ℕ → Type 0 where
  none : {done : ℕ → ℕ} → Lines fields h done [] []
  more : {done : ℕ → ℕ} {t : ℕ} {steps rest : List ℕ} {e : Entry} → Access h t (suc (done t)) e → Lines fields h (one_more t done) steps rest
      → Lines fields h done (t ∷ steps) (access_line fields t (suc (done t)) e.act ++ rest)

-- the calls ask for what the text's lines want, and each access they made has its line
pub record Shown (text : List ℕ) : Type 0 where
  pub opening : Opening
  pub asked : List Asked
  pub asks : map wanted_by asked ≡ map (wanted_in (has_fields (text_sizes text))) (access_lines text)
  pub recorded_each : length (recorded opening asked) ≡ length (access_lines text)
  pub steps : List ℕ
  pub step_each : length steps ≡ length (access_lines text)
  pub lines : List ℕ
  pub line_each : Lines opening.fields (recorded opening asked) (λ t. 0) steps lines
  pub is : text_of (record_of text).bytes ≡ lines ++ end_line true (length (access_lines text)) ++ memory_of (record_of text).memory
