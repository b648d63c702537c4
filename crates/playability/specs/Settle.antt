-- Where the play of a recording without a memory stops: the run at its start, and the run after the order of "lowest ready task first",
-- where no task is ready (document 01, "Replay"); or why the bytes are refused.
use Rattle.std.specs.Prelude.{List, ℕ, length}
use Rattle.entries.specs.Reading.{Reading, mapped}
use Rattle.reader.specs.Parse.{Parsed, parse}
use Rattle.replayer.specs.OpenOf.{opened_run}
use Rattle.scheduler.specs.Schedule.{schedule_of, settled_of}
use Rattle.playability.specs.declared.settle.Settled.{Settled}

abbrev pub settled_at : List ℕ → Parsed → Settled
settled_at b p = record { start = opened_run p; run = settled_of b (opened_run p); steps = length (schedule_of b (opened_run p)) }

unfoldable pub settle_of : List ℕ → Reading Settled
settle_of b = mapped (settled_at b) (parse b)
