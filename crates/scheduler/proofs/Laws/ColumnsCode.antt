-- Columns during a play: the run they represent is sound, and the notes are true of it. A note says how far a waiting task's orderings
-- have been tested (`Visit`).
use Rattle.std.specs.Prelude.{◌≡◌, true, List, ℕ, ◌+◌, length, get_or, set, replicate}
use Rattle.std.proofs.Common.{sym, ap, ◌∙◌, length-set}
use Rattle.codec.specs.declared.Op.{Op}
use Rattle.codec.specs.Limit.{max_tasks}
use Rattle.pending.specs.declared.Run.{Run}
use Rattle.pending.specs.declared.TaskRun.{TaskRun}
use Rattle.scheduler.specs.declared.columns.Columns.{Columns}
use Rattle.scheduler.specs.Laws.Columns.{run_of, place_of, columns_of}
use Rattle.scheduler.proofs.Laws.Columns.{columns_back, columns_shaped, columns_task, columns_moved}
use Rattle.pending.proofs.Laws.Each.{each-length}
use Rattle.scheduler.specs.Laws.Lowest.{IsNext, Behind}
use Rattle.scheduler.proofs.Laws.Lowest.{behind}
use Rattle.pending.specs.Laws.Moved.{Shaped}
use Rattle.pending.specs.Run.{done_of, moved_of}
use Rattle.pending.specs.Sound.{sound_of}
use Rattle.scheduler.specs.Laws.Visit.{Noted}
use Rattle.scheduler.proofs.Laws.Visit.{noted_none}
use Rattle.scheduler.specs.Laws.ColumnsCode.{Columned}

-- at the start there are no notes
pub columned_none : (b : List ℕ) (r : Run) (k : Columns) → k ≡ columns_of r → Shaped r → sound_of r (length b) ≡ true
    → Columned b r.tasks r.objects r.fields k.places k.ends k.dones k.counts (replicate max_tasks 0) (replicate max_tasks 0)
columned_none b r k e s h = record {
  sound = rw (columns_back r k e s) h;
  places_all = rw e (each-length (place_of r.runs) max_tasks);
  dones_all = rw e (each-length (done_of r.runs) max_tasks);
  noted = noted_none _ b;
}

-- the notes after one task was tested
pub columned_noted : {b : List ℕ} {tasks objects fields : ℕ} {places ends dones counts scans ats visited-scans visited-ats : List ℕ}
    → Columned b tasks objects fields places ends dones counts scans ats → Noted (run_of tasks objects fields places ends dones counts) b visited-scans visited-ats
    → Columned b tasks objects fields places ends dones counts visited-scans visited-ats
columned_noted w n = record { sound = w.sound; places_all = w.places_all; dones_all = w.dones_all; noted = n }

-- a step of the next task
module _ {b : List ℕ} {tasks objects fields : ℕ} {places ends dones counts scans ats : List ℕ} (w : Columned b tasks objects fields places ends dones counts scans ats)
    {t : ℕ} {op : Op} {next : ℕ} (n : IsNext (run_of tasks objects fields places ends dones counts) b t op next) where
  done_more : get_or dones t 0 + 1 ≡ done_of (run_of tasks objects fields places ends dones counts).runs t + 1
  done_more = ap (λ (y : TaskRun). y.done + 1) (sym (columns_task tasks objects fields places ends dones counts t n.few))

  pub columned_moved : run_of tasks objects fields (set places t next) ends (set dones t (get_or dones t 0 + 1)) counts ≡ moved_of (run_of tasks objects fields places ends dones counts) t next
  columned_moved = columns_moved tasks objects fields places ends dones counts w.dones_all t next (get_or dones t 0 + 1) n.few w.places_all done_more

  after : Behind (run_of tasks objects fields places ends dones counts) b t next
  after = behind (run_of tasks objects fields places ends dones counts) b t op next w.sound (columns_shaped tasks objects fields places ends dones counts) n

  pub columned_on : Columned b tasks objects fields (set places t next) ends (set dones t (get_or dones t 0 + 1)) counts scans ats
  columned_on = record {
    sound = rw columned_moved after.sound;
    places_all = length-set places t next ∙ w.places_all;
    dones_all = length-set dones t (get_or dones t 0 + 1) ∙ w.dones_all;
    noted = rw columned_moved (after.noted scans ats w.noted);
  }
