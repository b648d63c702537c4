-- The cases of a text.
use Rattle.std.specs.Prelude.{Some, None, Err, Ok, ◌≡◌, List, ℕ, ◌≤◌, ◌<◌, length}
use Rattle.std.proofs.Common.{lt-ltb, le-ltb}
use Rattle.entries.specs.declared.Refusal.{Refusal}
use Rattle.reader.specs.Parse.{Parsed, parse}
use Rattle.replayer.specs.OpenOf.{opened_run}
use Rattle.scheduler.specs.Schedule.{schedule_of, settled_of}
use Rattle.playability.specs.declared.hold.Held.{Held}
use Rattle.playability.specs.Hold.{hold_of}
use Rattle.replay_lines.specs.Limits.{longest}
use Rattle.replay_lines.specs.Lines.{long_line, refusal_of}
use Rattle.verdict.specs.Text.{yes_of, no_of, on_hold, answer_of, text_of}
use Rattle.codec.specs.Reason.{number_of}

module _ (b : List ℕ) where
  pub text-long : longest < length b → text_of b ≡ long_line
  unfolding text_of
  text-long h = rw (lt-ltb longest (length b) h)

  module _ (h : length b ≤ longest) where
    pub text-refused : (c : Refusal) → parse b ≡ Err c → text_of b ≡ refusal_of (number_of c.reason) c.offset
    unfolding text_of answer_of
    text-refused c e = rw (le-ltb longest (length b) h, e)

    module _ (p : Parsed) (e : parse b ≡ Ok p) where
      pub text_no : (held : Held) → hold_of b (settled_of b (opened_run p)) ≡ Some held → text_of b ≡ no_of held.task held.offset
      unfolding text_of answer_of on_hold
      text_no held f = rw (le-ltb longest (length b) h, e, f)

      pub text_yes : hold_of b (settled_of b (opened_run p)) ≡ None → text_of b ≡ yes_of (schedule_of b (opened_run p))
      unfolding text_of answer_of on_hold
      text_yes f = rw (le-ltb longest (length b) h, e, f)
