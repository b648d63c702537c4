-- Every list of steps (document 01, "Whole runs": the second list). What it preserves: the counts are closed, no task has done more
-- accesses than it has, and the memory is that of the writes that are in. And what the counts are after it.
use Rattle.std.specs.Prelude.{◌≡◌, [], ◌∷◌, ◌&&◌, ℕ, ◌+◌, ◌≤◌}
use Rattle.std.proofs.Common.{◌∙◌}
use Rattle.std.proofs.Math.Decide.{ℕ_discrete}
use Rattle.history.specs.History.{History, count}
use Rattle.history.specs.Closed.{Closed}
use Rattle.history.specs.Memory.{memory_of}
use Rattle.history.specs.Replay.{State}

pub record Kept (start : ℕ → ℕ) (h : History) (s : State) : Type 0 where
  pub closed : Closed s.done h
  pub bounded : (t : ℕ) → s.done t ≤ count t h
  pub holds : (c : ℕ) → s.memory c ≡ memory_of start s.done h c
