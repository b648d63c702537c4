-- RECORD AND REPLAY, PAUSED: what `replay` writes if it is asked to pause or to follow an order (document 02, F-4), for a recording that
-- `record` made from a text. No step stops it, and where two requests leave each task after the same number of accesses it writes the same
-- `paused` block, or the same `end` and memory, byte for byte. No proof is in this file.
use Rattle.std.specs.Prelude.{Ok, true, List, ◌++◌, ◌≡◌, ℕ}
use Rattle.pause.specs.Ending.{ending_of}
use Rattle.follow.specs.Follow.{Followed}
use Rattle.pause.specs.Request.{Request, has_counts}
use Rattle.pause.specs.Text.{followed_by, answer_of}
use Rattle.pending.specs.Run.{done_of}
use Rattle.reader.specs.Parse.{Parsed, parse}
use Rattle.script.specs.RecordOf.{record_of}

-- the recording, and a request followed on it: any number of steps, any counts, any order
abbrev pub file_of : List ℕ → List ℕ
file_of text = (record_of text).bytes

abbrev pub reached : List ℕ → Parsed → Request → Followed
reached text p q = followed_by q (file_of text) p

-- each task has done the same number of accesses where the two stop
abbrev pub AtOnePlace : List ℕ → Parsed → Request → Request → Type 0
AtOnePlace text p q s = (t : ℕ) → done_of (reached text p q).play.run.runs t ≡ done_of (reached text p s).play.run.runs t

pub record Pauses (text : List ℕ) : Type 0 where
  pub parsed : Parsed
  pub reads : parse (file_of text) ≡ Ok parsed
  pub never_stopped : (q : Request) → (reached text parsed q).stopped.number ≡ 0
  pub same_ending : (q s : Request) → AtOnePlace text parsed q s → ending_of (file_of text) (reached text parsed q).play ≡ ending_of (file_of text) (reached text parsed s).play
  -- the lines of the steps, and then that ending, if there is a count for each task or none
  pub text_is : (q : Request) → has_counts q.counts parsed.recording.tasks ≡ true
      → (answer_of q (file_of text) (Ok parsed)).text ≡ (reached text parsed q).text ++ ending_of (file_of text) (reached text parsed q).play
