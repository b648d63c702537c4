-- The order of "lowest ready task first" through a recording: it is allowed, the lowest ready task is next at each place, and no task is
-- ready after it. A run's test for ready tasks and `Order.Ready` agree.
use Rattle.std.specs.Prelude.{◌≡◌, List, ℕ, ◌+◌, ◌<◌, length, take}
use Rattle.entries.specs.Recording.{Entry}
use Rattle.pending.specs.declared.Run.{Run}
use Rattle.pending.specs.Run.{task_at, done_of}
use Rattle.replayer.specs.Laws.Along.{Along}
use Rattle.playability.specs.Order.{times, body_of, Allowed, LowestFirst, size_of}

-- a run that the steps so far lead to; `starts` is where the bodies start
pub record Reached (b : List ℕ) (bodies : List (List Entry)) (starts : ℕ → ℕ) (r : Run) (before : List ℕ) : Type 0 where
  pub along : Along b bodies r
  pub each : length bodies ≡ r.tasks
  pub done : (t : ℕ) → done_of r.runs t ≡ times t before
  pub place : (t : ℕ) → t < r.tasks → (task_at r.runs t).place ≡ starts t + size_of (take (times t before) (body_of bodies t))
  pub allowed : Allowed bodies before
  pub lowest : LowestFirst bodies before
