-- The play without a memory as the code does it: one pass of the loop, and the runs of a layout.
use Rattle.std.specs.Prelude.{◌≡◌, List, ℕ, ◌+◌, length}
use Rattle.pending.specs.declared.Run.{Run}
use Rattle.pending.specs.Laws.Moved.{Shaped}
use Rattle.scheduler.specs.Schedule.{schedule_of, settled_of}

-- a run after some steps: it will stop where the first run stops, after as many steps in all
pub record Settling (b : List ℕ) (start r : Run) (steps : ℕ) : Type 0 where
  pub shaped : Shaped r
  pub same : settled_of b r ≡ settled_of b start
  pub count : steps + length (schedule_of b r) ≡ length (schedule_of b start)
