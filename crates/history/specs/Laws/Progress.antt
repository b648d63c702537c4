-- A replay never gets stuck before the end (document 01, "Whole runs": the ready word). If every ordering points back, either every task
-- has done all its entries or some task is ready: everything before the oldest entry that is not in is in, so its orderings are met.
use Rattle.std.specs.Prelude.{[], ◌∷◌, ℕ, ◌<◌}
use Rattle.std.proofs.Math.Decide.{ℕ_discrete}
use Rattle.history.specs.History.{History}
use Rattle.history.specs.Ready.{Ready}
use Rattle.history.specs.Laws.Done.{AllDone}

pub data Progress (done : ℕ → ℕ) (h : History) : Type 0 where
  finished : AllDone done h → Progress done h
  ready : (t : ℕ) → Ready h done t → Progress done h
