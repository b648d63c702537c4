-- Columns during a play: the run they represent is sound, and the notes are true of it. A note says how far a waiting task's orderings
-- have been tested (`Visit`).
use Rattle.std.specs.Prelude.{◌≡◌, true, List, ℕ, length}
use Rattle.codec.specs.Limit.{max_tasks}
use Rattle.scheduler.specs.Laws.Columns.{run_of}
use Rattle.pending.specs.Sound.{sound_of}
use Rattle.scheduler.specs.Laws.Visit.{Noted}

pub record Columned (b : List ℕ) (tasks objects fields : ℕ) (places ends dones counts scans ats : List ℕ) : Type 0 where
  pub sound : sound_of (run_of tasks objects fields places ends dones counts) (length b) ≡ true
  pub places_all : length places ≡ max_tasks
  pub dones_all : length dones ≡ max_tasks
  pub noted : Noted (run_of tasks objects fields places ends dones counts) b scans ats
