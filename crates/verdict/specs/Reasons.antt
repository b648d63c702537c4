-- Why a recording cannot be played to its end, for standard error: a line for each task that has accesses left where the play stops
-- (`waits` `Waits.waits_of`). There are none if it can be played or is not read.
use Rattle.std.specs.Prelude.{Err, Ok, cond, List, [], ℕ, ltb, length}
use Rattle.entries.specs.Reading.{Reading}
use Rattle.reader.specs.Parse.{Parsed, parse}
use Rattle.replayer.specs.OpenOf.{opened_run}
use Rattle.scheduler.specs.Schedule.{settled_of}
use Rattle.replay_lines.specs.Limits.{longest}
use Rattle.waits.specs.Waits.{waits_of}

unfoldable pub reasons_in : List ℕ → Reading Parsed → List ℕ
reasons_in b (Err c) = []
reasons_in b (Ok p) = waits_of b (settled_of b (opened_run p))

unfoldable pub reasons_of : List ℕ → List ℕ
reasons_of b = cond (ltb longest (length b)) [] (reasons_in b (parse b))
