-- Run A (document 01, "Runs on the bench") with both kinds of reads (document 02, F-3): with kind 4, by which document 01 gives its sizes, as
-- a recording that is written, read and played; and with kind 6. And what a changed value does. By computation.
use Rattle.std.specs.Prelude.{Ok, List, [], ◌∷◌, ◌++◌, ◌≡◌, ℕ, ◌+◌, length}
use Rattle.codec.specs.declared.Op.{Op}
use Rattle.codec.specs.Kind.{read_kind, write_kind, valued_read_kind}
use Rattle.entries.specs.Bytes.{body_bytes, bytes_of}
use Rattle.entries.specs.Recording.{Entry, Recording}
use Rattle.reader.specs.Calls.{checked_of}
use Rattle.reader.specs.Parse.{parse}
use Rattle.replay_lines.specs.Lines.{line_of}
use Rattle.replayer.specs.OpenedOf.{opened_of}
use Rattle.replayer.specs.ReadyOf.{ready_of}
use Rattle.replayer.specs.StepOf.{refused_step}
use Rattle.tracker.specs.State.{position}
use Rattle.fidelity.specs.Bench.{Bench, bench_of, answer_of, stepped, stepped_all}

abbrev op : ℕ → ℕ → Op
op kind value = record { kind = kind; object = 0; field = 0; value = value }

-- the two bodies, with this record for the reads
abbrev first : Op → List Entry
first read = record { orderings = []; op = op write_kind 7 } ∷ record { orderings = position 1 1 ∷ []; op = read } ∷ []

abbrev second : Op → List Entry
second read = record { orderings = position 0 1 ∷ []; op = read } ∷ record { orderings = position 0 2 ∷ []; op = op write_kind 9 } ∷ []

abbrev run-a : Op → Recording
run-a read = record { tasks = 2; fields = 0; owners = 0 ∷ 0 ∷ []; values = 0 ∷ 0 ∷ []; bodies = first read ∷ second read ∷ [] }

-- with reads of kind 4, with reads of kind 6, and with a value that the box did not read
abbrev bare : List ℕ
bare = bytes_of (run-a (op read_kind 0))

abbrev valued : List ℕ
valued = bytes_of (run-a (op valued_read_kind 7))

abbrev damaged : List ℕ
damaged = bytes_of (run-a (op valued_read_kind 8))

-- a replay after some steps, and the lines of all of them
abbrev bench : List ℕ → List ℕ → Bench
bench bytes steps = stepped_all bytes (bench_of bytes (3 ∷ 3 ∷ [])) steps

unfoldable pub lines_by : List ℕ → Bench → List ℕ → List ℕ
lines_by bytes b [] = []
lines_by bytes b (t ∷ steps) = line_of t (answer_of bytes b t) ++ lines_by bytes (stepped bytes b t) steps

-- `0 1 W 0 7`, `1 1 R 0 7`, `0 2 R 0 7`, `1 2 W 0 9`
abbrev line : ℕ → ℕ → ℕ → ℕ → List ℕ
line task number letter value = (48 + task) ∷ 32 ∷ (48 + number) ∷ 32 ∷ letter ∷ 32 ∷ 48 ∷ 32 ∷ (48 + value) ∷ 10 ∷ []

abbrev lines : List ℕ
lines = line 0 1 87 7 ++ (line 1 1 82 7 ++ (line 0 2 82 7 ++ line 1 2 87 9))

pub record Kinds : Type 0 where
  -- kind 4: bodies of 24 and 32 bytes, 98 bytes in all, which the reader accepts
  pub bare_first : length (body_bytes (first (op read_kind 0))) ≡ 24
  pub bare_second : length (body_bytes (second (op read_kind 0))) ≡ 32
  pub bare_size : length bare ≡ 98
  pub bare_taken : checked_of (parse bare) ≡ Ok tt
  -- kind 6: 28, 36 and 106
  pub valued_first : length (body_bytes (first (op valued_read_kind 7))) ≡ 28
  pub valued_second : length (body_bytes (second (op valued_read_kind 7))) ≡ 36
  pub valued_size : length valued ≡ 106
  pub valued_taken : checked_of (parse valued) ≡ Ok tt
  -- 10 records each: the head, 2 sections, 3 orderings, 4 accesses (document 02, F-5); none for a memory of one entry
  pub bare_records : (opened_of bare (3 ∷ 3 ∷ [])).records ≡ 10
  pub valued_records : (opened_of valued (3 ∷ 3 ∷ [])).records ≡ 10
  pub refused_records : (opened_of valued (3 ∷ [])).records ≡ 0
  -- both play to the same lines and the same memory
  pub bare_lines : lines_by bare (bench bare []) (0 ∷ 1 ∷ 0 ∷ 1 ∷ []) ≡ lines
  pub valued_lines : lines_by valued (bench valued []) (0 ∷ 1 ∷ 0 ∷ 1 ∷ []) ≡ lines
  pub bare_memory : (bench bare (0 ∷ 1 ∷ 0 ∷ 1 ∷ [])).memory ≡ 9 ∷ 0 ∷ []
  pub valued_memory : (bench valued (0 ∷ 1 ∷ 0 ∷ 1 ∷ [])).memory ≡ 9 ∷ 0 ∷ []
  -- the reader accepts any value; task 1's read of 8 gives 16 while its ordering at 70 holds it up, then 19 at its own record, and it stays ready
  pub damaged_taken : checked_of (parse damaged) ≡ Ok tt
  pub damaged_held : (answer_of damaged (bench damaged []) 1).number ≡ 16
  pub damaged_differs : answer_of damaged (bench damaged (0 ∷ [])) 1 ≡ refused_step (bench damaged (0 ∷ [])).run 19 78
  pub damaged_memory : (bench damaged (0 ∷ 1 ∷ [])).memory ≡ 7 ∷ 0 ∷ []
  pub damaged_ready : (ready_of (bench damaged (0 ∷ 1 ∷ [])).run damaged).word ≡ 2
