-- Ready tasks (document 01, "Replay": a task is ready if it has accesses left and every ordering before its next one is met).
use Rattle.std.specs.Prelude.{ℕ, suc, ◌<◌}
use Rattle.history.specs.Entry.{Entry}
use Rattle.history.specs.History.{History, count}
use Rattle.history.specs.Access.{Access}
use Rattle.history.specs.Closed.{Met}

pub record Ready (h : History) (done : ℕ → ℕ) (t : ℕ) : Type 0 where
  pub left : done t < count t h
  pub met : {e : Entry} → Access h t (suc (done t)) e → Met done e.orderings
