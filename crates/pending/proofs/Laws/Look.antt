-- Laws of `Look`.
use Rattle.std.specs.Prelude.{◌≡◌, Bool, List, ℕ}
use Rattle.entries.specs.declared.Limits.{Limits}
use Rattle.pending.specs.declared.Run.{Run}
use Rattle.pending.specs.declared.TaskRun.{TaskRun}
use Rattle.pending.specs.FirstUnmet.{Holds}
use Rattle.pending.specs.Next.{Next, entry_next, next_of, is_open}
use Rattle.pending.specs.Look.{group_at, Looks, Opens}
use Rattle.pending.specs.Unmet.{Unmet, unmet_next}
use Rattle.pending.specs.Laws.Look.{OneTask}

pub look_next : (r : Run) (b : List ℕ) (t : ℕ) (x : TaskRun) (m : Limits) (dones : List ℕ) → OneTask r t x m dones → (n : Next)
    → Looks dones x.place (group_at m b x.place x.end) n → n ≡ next_of r b t
unfolding next_of entry_next
look_next r b t x m dones w n k = rw (w.task, w.limits) at (k r.runs w.counts)

-- whether it may be done
pub look_open : (r : Run) (b : List ℕ) (t : ℕ) (x : TaskRun) (m : Limits) (dones : List ℕ) → OneTask r t x m dones → (o : Bool)
    → Opens dones x.place (group_at m b x.place x.end) o → o ≡ is_open (next_of r b t)
unfolding next_of entry_next
look_open r b t x m dones w o k = rw (w.task, w.limits) at (k r.runs w.counts)

-- and the first unmet ordering
pub look_unmet : (r : Run) (b : List ℕ) (t : ℕ) (x : TaskRun) (m : Limits) (dones : List ℕ) → OneTask r t x m dones → (u : Unmet) → Holds m b dones x.place x.end u
    → u ≡ unmet_next r b t
unfolding unmet_next entry_next
look_unmet r b t x m dones w u k = rw (w.task, w.limits) at (k r.runs w.counts)
