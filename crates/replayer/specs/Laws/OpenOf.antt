-- What an accepted opening means: the recording that the bytes are, each task at the start of its body with nothing done, a sound run,
-- and the starting values as memory.
use Rattle.std.specs.Prelude.{Ok, ◌≡◌, true, List, ℕ, ◌<◌, length, get_or}
use Rattle.reader.specs.Calls.{no_span}
use Rattle.reader.specs.Parse.{Parsed, parse}
use Rattle.pending.specs.Run.{task_at, done_of, cell_count}
use Rattle.pending.specs.Sound.{sound_of}
use Rattle.pending.specs.Laws.Moved.{Shaped}
use Rattle.replayer.specs.OpenOf.{start_of, opened_run}

-- the run at the start of a recording
pub record AtStart (b : List ℕ) (p : Parsed) : Type 0 where
  pub shaped : Shaped (opened_run p)
  pub sound : sound_of (opened_run p) (length b) ≡ true
  pub task : (t : ℕ) → t < p.recording.tasks → task_at (opened_run p).runs t ≡ start_of (get_or p.spans t no_span)
  pub done : (t : ℕ) → done_of (opened_run p).runs t ≡ 0
  pub values : length p.recording.values ≡ cell_count (opened_run p)

-- and only then
pub record Opens (b memory : List ℕ) : Type 0 where
  pub parsed : Parsed
  pub reads : parse b ≡ Ok parsed
  pub entries : length memory ≡ cell_count (opened_run parsed)
