-- What the program `record` writes for a text: the recording to standard output, or a message to standard error.
use Rattle.std.specs.Prelude.{cond, ◌&&◌, List, [], ℕ, ◌≤◌, ltb, leb, length}
use Rattle.text.specs.Appended.{Appended}
use Rattle.script.specs.declared.Answered.{Answered}
use Rattle.script.specs.Message.{long_word, message_of}
use Rattle.script.specs.RecordOf.{record_of}
use Rattle.logs.specs.Session.{most}

-- the bytes for standard output, and those for standard error
pub record Streams : Type 0 where
  pub output : List ℕ
  pub message : List ℕ

-- the most bytes that a text can have
abbrev pub longest : ℕ
longest = 1048576

-- the recording and no message, or no recording and a message
unfoldable pub streams_of : List ℕ → Streams
streams_of text =
    cond (ltb longest (length text)) (record { output = []; message = long_word })
    (record { output = (record_of text).bytes; message = message_of text (record_of text).line (record_of text).number })

-- room for every message
abbrev pub message_room : ℕ
message_room = 128

-- nothing is written if a lent buffer is shorter than the longest answer
unfoldable pub answer_of : ℕ → ℕ → List ℕ → Streams
answer_of out message text = cond (leb most out && leb message_room message) (streams_of text) (record { output = []; message = [] })

-- both are at the front of their buffers, whose rest stays as it was
pub record Answers (s : Streams) (r : Answered) (out₀ out message₀ message : List ℕ) : Type 0 where
  pub written : Appended s.output out₀ 0 out r.written
  pub told : Appended s.message message₀ 0 message r.told
  pub written_within : r.written ≤ length out
  pub told_within : r.told ≤ length message
