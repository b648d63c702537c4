-- If the program `record` reports nothing on standard error, what it writes to standard output is the recording of a whole run.
use Rattle.std.specs.Prelude.{◌≡◌, List, [], ℕ, ◌≤◌, eqb, ltb, length}
use Rattle.std.proofs.Common.{arith, eqb-true, le-leb}
use Rattle.codec.specs.Laws.Decide.{passes, fails, split}
use Rattle.faults.specs.Reading.{text_sizes}
use Rattle.lines.specs.AccessLines.{access_lines}
use Rattle.lines.specs.Rows.{has_fields}
use Rattle.script.specs.AnswerOf.{longest, streams_of, message_room, answer_of}
use Rattle.script.specs.Message.{long_word, message_of}
use Rattle.script.specs.RecordOf.{record_of}
use Rattle.logs.specs.Session.{most}
use Rattle.programs.specs.WholeRecording.{WholeRecording}
use Rattle.programs.specs.Laws.WholeText.{whole-text}

message-none : (text : List ℕ) (line number : ℕ) → message_of text line number ≡ [] → line ≡ 0
unfolding message_of
message-none text line number e = elim (split (eqb line 0)) [
  | passes p ↦ eqb-true line 0 p
  | fails p ↦ let f = rw p at e in let z : ◌≡◌ {A = ℕ} 0 1 = cc f in absurd (let y : ⊥ = omega arith in y)
]

streams_whole : (text : List ℕ) → (streams_of text).message ≡ [] → WholeRecording (streams_of text).output (record_of text).memory (has_fields (text_sizes text)) (access_lines text)
unfolding streams_of
streams_whole text e = elim (split (ltb longest (length text))) [
  | passes p ↦ let f : long_word ≡ [] = rw p at e in let z : ◌≡◌ {A = ℕ} 0 1 = cc in absurd (let y : ⊥ = omega arith in y)
  | fails p ↦ rw p (whole-text text (message-none text (record_of text).line (record_of text).number (rw p at e)))
]

pub whole-answer : (out message : ℕ) (text : List ℕ) → most ≤ out → message_room ≤ message → (answer_of out message text).message ≡ []
    → WholeRecording (answer_of out message text).output (record_of text).memory (has_fields (text_sizes text)) (access_lines text)
unfolding answer_of
whole-answer out message text h k e =
    let i = le-leb most out h in
    let j = le-leb message_room message k in
    rw (i, j) (streams_whole text (rw (i, j) at e))
