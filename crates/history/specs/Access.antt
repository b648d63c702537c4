-- The accesses of one task, by number (document 01: a task's k-th accepted access has number k).
use Rattle.std.specs.Prelude.{◌≡◌, ℕ, suc}
use Rattle.history.specs.Entry.{Entry}
use Rattle.history.specs.History.{History, count, At}

-- e is access number n of task t in h
pub record Access (h : History) (t n : ℕ) (e : Entry) : Type 0 where
  pub before : History
  pub at : At e before h
  pub own : e.task ≡ t
  pub number : suc (count t before) ≡ n
