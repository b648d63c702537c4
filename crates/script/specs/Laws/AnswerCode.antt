-- An answer as the code assembles it.
use Rattle.std.specs.Prelude.{◌≡◌, List, ◌++◌, ℕ, ◌≤◌, ◌<◌, length, take, drop, Result}
use native.Mathlib.Omega.{arith}
use borrow.Author.Tests.{le-leb, lt-leb, lt-ltb, le-ltb}
use Rattle.text.specs.Appended.{Appended}
use Rattle.text.specs.Laws.Appended.{nothing, same_room}
use Rattle.script.specs.declared.recording.Stop.{Stop}
use Rattle.script.specs.AnswerOf.{longest, streams_of, message_room, answer_of, Answers}
use Rattle.script.specs.Laws.Front.{front_appended}
use Rattle.script.specs.Message.{long_word, message_of}
use Rattle.script.specs.RecordOf.{record_of}
use Rattle.script.specs.Laws.RecordOf.{stop_line, stop_number, written_by, Records}
use Rattle.logs.specs.Session.{most}

module _ (text out message : List ℕ) where
  pub short-out : length out < most → Answers (answer_of (length out) (length message) text) (record { written = 0; told = 0 }) out out message message
  unfolding answer_of
  short-out h = rw (lt-leb most (length out) h) (record { written = nothing out 0; told = nothing message 0; written_within = omega arith; told_within = omega arith })

  pub short-message : most ≤ length out → length message < message_room
      → Answers (answer_of (length out) (length message) text) (record { written = 0; told = 0 }) out out message message
  unfolding answer_of
  short-message k h = rw (le-leb most (length out) k, lt-leb message_room (length message) h) (record { written = nothing out 0; told = nothing message 0; written_within = omega arith; told_within = omega arith })

  module _ (k : most ≤ length out) (h : message_room ≤ length message) (after : List ℕ) (told : ℕ) (l : told ≤ message_room) where
    pub too_long : longest < length text → Appended long_word message 0 after told
        → Answers (answer_of (length out) (length message) text) (record { written = 0; told = told }) out out message after
    unfolding answer_of streams_of
    too_long i a = rw (le-leb most (length out) k, le-leb message_room (length message) h, lt-ltb longest (length text) i) (record {
      written = nothing out 0;
      told = a;
      written_within = omega arith;
      told_within = omega (arith, same_room a);
    })

    pub answer_so : (room : ℕ) → room ≡ most → (r : Result ℕ Stop) (part : List ℕ) → length text ≤ longest → Records (record_of text) r (take room out) part
        → Appended (message_of text (stop_line r) (stop_number r)) message 0 after told
        → Answers (answer_of (length out) (length message) text) (record { written = written_by r; told = told }) out (part ++ drop room out) message after
    unfolding answer_of streams_of
    answer_so room e r part i x a =
        let f = front_appended out part (record_of text).bytes room (written_by r) (omega arith) (omega (arith, x.within)) x.stored in
        rw (le-leb most (length out) k, le-leb message_room (length message) h, le-ltb longest (length text) i, ← x.line, ← x.number) (record {
          written = f;
          told = a;
          written_within = omega (arith, same_room f, x.within);
          told_within = omega (arith, same_room a);
        })
