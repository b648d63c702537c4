-- A run as columns: T, N, and one list of 16 each for the tasks' places, ends, numbers of accesses done, and counts.
use Rattle.std.specs.Prelude.{List, ℕ, ◌+◌, ◌<◌, get_or, length, set, ◌≡◌, refl}
use Rattle.std.proofs.Common.{sym, ap, ◌∙◌, arith, get_or-set_same, get_or-set_other}
use Rattle.std.proofs.Math.Decide.{ℕ_discrete}
use Rattle.codec.specs.Limit.{max_tasks}
use Rattle.pending.specs.declared.TaskRun.{TaskRun}
use Rattle.pending.specs.declared.Run.{Run}
use Rattle.scheduler.specs.declared.columns.Columns.{Columns}
use Rattle.scheduler.specs.Finish.{tasks_in, is_done, finished_of}
use Rattle.pending.specs.Dones.{dones_of}
use Rattle.pending.specs.Run.{task_at, blank_task, done_of, limits_of, moved_of}
use Rattle.scheduler.proofs.Laws.Finish.{tasks-few}
use Rattle.pending.proofs.Laws.All.{all_same}
use Rattle.pending.proofs.Laws.Each.{each-length, each_at, each_of}
use Rattle.pending.specs.Laws.Look.{OneTask}
use Rattle.pending.specs.Laws.Moved.{Shaped}
use Rattle.pending.proofs.Laws.Moved.{moved_shaped, moved-own, moved_other}
use Rattle.scheduler.specs.Laws.Columns.{all_done_of, columns_of, count_of, done_by, end_of, place_of, run_of, task_of}

pub columns_back : (r : Run) (k : Columns) → k ≡ columns_of r → Shaped r → run_of r.tasks r.objects r.fields k.places k.ends k.dones k.counts ≡ r
columns_back r k e s = rw (e, each_of (task_of (columns_of r).places (columns_of r).ends (columns_of r).dones (columns_of r).counts) max_tasks r.runs blank_task s back)
  where
    back : (t : ℕ) → t < max_tasks → task_of (columns_of r).places (columns_of r).ends (columns_of r).dones (columns_of r).counts t ≡ task_at r.runs t
    back t h = rw (each_at (place_of r.runs) max_tasks t 0 h, each_at (end_of r.runs) max_tasks t 0 h, each_at (done_of r.runs) max_tasks t 0 h, each_at (count_of r.runs) max_tasks t 0 h)

module _ (tasks objects fields : ℕ) (places ends dones counts : List ℕ) where
  pub columns_shaped : Shaped (run_of tasks objects fields places ends dones counts)
  columns_shaped = each-length (task_of places ends dones counts) max_tasks

  pub columns_task : (t : ℕ) → t < max_tasks → task_at (run_of tasks objects fields places ends dones counts).runs t ≡ task_of places ends dones counts t
  columns_task t h = each_at (task_of places ends dones counts) max_tasks t blank_task h

  -- where a task stands after its step
  pub columns_place : (r : Run) (t next : ℕ) → Shaped r → t < max_tasks → run_of tasks objects fields places ends dones counts ≡ moved_of r t next → get_or places t 0 ≡ next
  columns_place r t next s h e = ap (λ (y : TaskRun). y.place) (sym (columns_task t h) ∙ ap (λ (q : Run). task_at q.runs t) e ∙ moved-own r t next s h)

  module _ (d : length dones ≡ max_tasks) where
    columns_dones : dones_of (run_of tasks objects fields places ends dones counts).runs ≡ dones
    columns_dones = each_of _ max_tasks dones 0 d (λ t h. ap (λ (y : TaskRun). y.done) (columns_task t h))

    -- what `visit` is given
    pub columns_one : (t : ℕ) → t < max_tasks → OneTask (run_of tasks objects fields places ends dones counts) t (task_of places ends dones counts t) (limits_of (run_of tasks objects fields places ends dones counts) t) dones
    columns_one t h = record { task = sym (columns_task t h); limits = refl; counts = columns_dones }

    -- a task moves on to a place, with one more access done
    pub columns_moved : (t next k : ℕ) → t < max_tasks → length places ≡ max_tasks → k ≡ done_of (run_of tasks objects fields places ends dones counts).runs t + 1
        → run_of tasks objects fields (set places t next) ends (set dones t k) counts ≡ moved_of (run_of tasks objects fields places ends dones counts) t next
    unfolding moved_of
    columns_moved t next k h p e = rw (each_of (task_of (set places t next) ends (set dones t k) counts) max_tasks (moved_of r t next).runs blank_task (moved_shaped r t next columns_shaped) moved)
      where
        r : Run
        r = run_of tasks objects fields places ends dones counts

        moved : (u : ℕ) → u < max_tasks → task_of (set places t next) ends (set dones t k) counts u ≡ task_at (moved_of r t next).runs u
        moved u l = elim (ℕ_discrete u t) [
          | yes q ↦ rw (q, moved-own r t next columns_shaped h, columns_task t h, get_or-set_same places t next 0 (omega arith), get_or-set_same dones t k 0 (omega arith), e ∙ ap (λ (y : TaskRun). y.done + 1) (columns_task t h))
          | no q ↦ rw (moved_other r t next u q, columns_task u l, get_or-set_other places t u next 0 q, get_or-set_other dones t u k 0 q)
        ]

  -- whether the run has finished depends on the counts alone
  pub columns_finished : finished_of (run_of tasks objects fields places ends dones counts) ≡ all_done_of tasks dones counts
  columns_finished = all_same (is_done (run_of tasks objects fields places ends dones counts)) (done_by dones counts) (tasks_in tasks) (λ t h. rw (columns_task t (omega (arith, h, tasks-few tasks))))

pub columns_told : (r : Run) (k : Columns) → k ≡ columns_of r → Shaped r → all_done_of r.tasks k.dones k.counts ≡ finished_of r
columns_told r k e s = sym (columns_finished r.tasks r.objects r.fields k.places k.ends k.dones k.counts) ∙ ap finished_of (columns_back r k e s)
