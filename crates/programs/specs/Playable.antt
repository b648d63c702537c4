-- RECORD AND PLAYABLE: what `playable` writes for a recording that `record` made from a text: `yes`, the number of the text's accesses, and
-- an order of them with always the lowest ready task next; and nothing on standard error.
use Rattle.std.specs.Prelude.{Ok, List, [], ◌≡◌, ℕ, length}
use Rattle.reader.specs.Parse.{Parsed, parse}
use Rattle.lines.specs.AccessLines.{access_lines}
use Rattle.playability.specs.Order.{Plays, LowestFirst}
use Rattle.script.specs.RecordOf.{record_of}
use Rattle.verdict.specs.Reasons.{reasons_of}
use Rattle.verdict.specs.Text.{yes_of, text_of}

pub record SaysYes (text : List ℕ) : Type 0 where
  pub parsed : Parsed
  pub reads : parse (record_of text).bytes ≡ Ok parsed
  pub order : List ℕ
  pub plays : Plays parsed.recording.bodies order
  pub lowest : LowestFirst parsed.recording.bodies order
  pub each : length order ≡ length (access_lines text)
  pub is : text_of (record_of text).bytes ≡ yes_of order
  pub silent : reasons_of (record_of text).bytes ≡ []
