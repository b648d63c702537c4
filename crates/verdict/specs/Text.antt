-- What the playable program writes for a recording (document 02, F-2): `long` for more than 65,536 bytes; `refused` with number and offset
-- for bytes that are refused; `no` with the task that stays held and the offset of its first unmet ordering; otherwise `yes` with the
-- number of steps, and then the order, one task a line.
use Rattle.std.specs.Prelude.{Option, Some, None, Err, Ok, cond, List, [], ◌∷◌, ◌++◌, ℕ, ltb, length}
use Rattle.entries.specs.Reading.{Reading}
use Rattle.reader.specs.Parse.{Parsed, parse}
use Rattle.replayer.specs.OpenOf.{opened_run}
use Rattle.scheduler.specs.Schedule.{schedule_of, settled_of}
use Rattle.playability.specs.declared.hold.Held.{Held}
use Rattle.playability.specs.Hold.{hold_of}
use Rattle.replay_lines.specs.Limits.{longest}
use Rattle.replay_lines.specs.Lines.{long_line, refusal_of}
use Rattle.text.specs.Decimal.{field_of}
use Rattle.codec.specs.Reason.{number_of}

-- a line for each step
unfoldable pub steps_of : List ℕ → List ℕ
steps_of [] = []
steps_of (t ∷ order) = field_of t 10 ++ steps_of order

-- `yes`, the number of steps, the order
unfoldable pub yes_of : List ℕ → List ℕ
yes_of order = (121 ∷ 101 ∷ 115 ∷ 32 ∷ []) ++ field_of (length order) 10 ++ steps_of order

-- `no`, the task, the offset
unfoldable pub no_of : ℕ → ℕ → List ℕ
no_of task offset = (110 ∷ 111 ∷ 32 ∷ []) ++ field_of task 32 ++ field_of offset 10

-- given the order and what holds up the run after it
unfoldable pub on_hold : List ℕ → Option Held → List ℕ
on_hold order (Some held) = no_of held.task held.offset
on_hold order None = yes_of order

unfoldable pub answer_of : List ℕ → Reading Parsed → List ℕ
answer_of b (Err c) = refusal_of (number_of c.reason) c.offset
answer_of b (Ok p) = on_hold (schedule_of b (opened_run p)) (hold_of b (settled_of b (opened_run p)))

unfoldable pub text_of : List ℕ → List ℕ
text_of b = cond (ltb longest (length b)) long_line (answer_of b (parse b))

-- the most bytes that a text can have (`TextBound.text_bound`)
abbrev pub most : ℕ
most = 32776
