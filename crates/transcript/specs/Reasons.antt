-- Why a play of a recording did not get to its end, for standard error. Where it got stuck: a line for each task that has accesses left
-- after the last step (`waits` `Waits.waits_of`). Where a 19 stopped it: what the read's record says and what the memory holds (`waits`
-- `Differ.differ_of`). There is nothing to say if every access was played or if the bytes are not played.
use Rattle.std.specs.Prelude.{Err, Ok, cond, List, [], ℕ, eqb, ltb, length}
use Rattle.reader.specs.Parse.{Parsed, parse}
use Rattle.entries.specs.Reading.{Reading}
use Rattle.pending.specs.declared.Run.{Run}
use Rattle.replayer.specs.OpenOf.{opened_run}
use Rattle.scheduler.specs.Schedule.{schedule_of}
use Rattle.replay_lines.specs.Limits.{longest}
use Rattle.waits.specs.Differ.{differ_of}
use Rattle.waits.specs.Waits.{waits_of}
use Rattle.transcript.specs.Told.{stop_in, after_of}

-- after a list of steps
unfoldable pub why_of : List ℕ → Run → List ℕ → List ℕ → List ℕ
why_of b r m steps =
    cond (eqb (stop_in b r m steps).number 0) (waits_of b (after_of b r m steps).run) (differ_of r.fields b (after_of b r m steps).memory (stop_in b r m steps).offset)

unfoldable pub reasons_in : List ℕ → Reading Parsed → List ℕ
reasons_in b (Err c) = []
reasons_in b (Ok p) = why_of b (opened_run p) p.recording.values (schedule_of b (opened_run p))

unfoldable pub reasons_of : List ℕ → List ℕ
reasons_of b = cond (ltb longest (length b)) [] (reasons_in b (parse b))
