-- The lowest ready task of a run and its next access, if there is one (document 01, "Replay"); and the run after that access.
use Rattle.std.specs.Prelude.{Option, Some, None, Ok, Err, cond, true, List, ℕ, ◌+◌, ◌<◌, eqb, ◌≡◌, length}
use Rattle.pending.specs.declared.Run.{Run}
use Rattle.scheduler.specs.declared.lowest.Chosen.{Chosen}
use Rattle.pending.specs.Next.{Next, may_go, next_of}
use Rattle.replayer.specs.ReadyOf.{ready_of, has_left}
use Rattle.scheduler.specs.Schedule.{next_task, behind_of}
use Rattle.codec.specs.declared.Op.{Op}
use Rattle.codec.specs.Limit.{max_tasks}
use Rattle.scheduler.specs.Finish.{left_over}
use Rattle.pending.specs.Run.{moved_of}
use Rattle.pending.specs.Sound.{sound_of}
use Rattle.scheduler.specs.Laws.Visit.{Noted}

-- a task with its access, if it may be done
abbrev pub ready_at : ℕ → Next → Option Chosen
ready_at t (Ok (Some w)) = Some (record { task = t; op = w.op })
ready_at t (Ok None) = None
ready_at t (Err c) = None

unfoldable pub lowest_of : Run → List ℕ → Option Chosen
lowest_of r b = cond (eqb (ready_of r b).word 0) None (ready_at (next_task b r) (next_of r b (next_task b r)))

-- the run after that access, or unchanged if no task is ready
unfoldable pub after_of : Run → List ℕ → Run
after_of r b = cond (eqb (ready_of r b).word 0) r (behind_of r (next_task b r) (next_of r b (next_task b r)))

-- the task that is stepped next, and its access
pub record IsNext (r : Run) (b : List ℕ) (t : ℕ) (op : Op) (next : ℕ) : Type 0 where
  pub below : t < r.tasks
  pub few : t < max_tasks
  pub left : has_left r t ≡ true
  pub goes : (ready_of r b).word ≡ 0 → ⊥
  pub first : next_task b r ≡ t
  pub opens : next_of r b t ≡ may_go op next

-- the run after its step
pub record SteppedTo (r : Run) (b : List ℕ) (t : ℕ) (op : Op) (q : Run) : Type 0 where
  pub next : ℕ
  pub is : IsNext r b t op next
  pub run : q ≡ moved_of r t next

-- there is such a task, or no task is ready
pub data Standing (r : Run) (b : List ℕ) : Type 0 where
  goes_on_lem : (t : ℕ) (op : Op) (next : ℕ) → IsNext r b t op next → Standing r b
  stops : (ready_of r b).word ≡ 0 → Standing r b

-- the run after that access: still sound, with one access fewer
pub record Behind (r : Run) (b : List ℕ) (t next : ℕ) : Type 0 where
  pub sound : sound_of (moved_of r t next) (length b) ≡ true
  pub fewer : left_over (moved_of r t next) + 1 ≡ left_over r
  pub noted : (scans ats : List ℕ) → Noted r b scans ats → Noted (moved_of r t next) b scans ats
