-- Testing one task in the search for the lowest ready one, with a note for each waiting task of how far its orderings have been tested. A
-- note stays true while other tasks step; a step of the task itself goes past the access's record, and the note then says nothing.
use Rattle.std.proofs.Math.Path.{◌≡◌, sym, ap}
use Rattle.std.specs.Prelude.{Some, None, Ok, Err, is_some, refl, false, List, ℕ, ◌+◌, ◌≤◌, ◌<◌, get_or, set, replicate}
use Rattle.std.proofs.Common.{◌∙◌, arith, length-set, get_or-set_same, get_or-set_other, lt-ltb, le-ltb}
use Rattle.std.proofs.Math.Decide.{ℕ_discrete, dec_lt}
use Rattle.std.proofs.Math.ListN.{length}
use Rattle.std.proofs.lemmas.List.{set-get_or}
use Rattle.codec.specs.declared.Op.{Op}
use Rattle.codec.specs.Laws.Zeros.{zeros-at}
use Rattle.codec.specs.Limit.{max_tasks}
use Rattle.entries.specs.declared.Limits.{Limits}
use Rattle.pending.specs.declared.Run.{Run}
use Rattle.pending.specs.declared.TaskRun.{TaskRun}
use Rattle.pending.specs.declared.next.Open.{Open}
use Rattle.pending.specs.Dones.{dones_of}
use Rattle.pending.proofs.Laws.Dones.{dones_at}
use Rattle.pending.specs.Look.{group_at, Looks}
use Rattle.pending.specs.Laws.Look.{OneTask}
use Rattle.pending.proofs.Laws.Look.{look_next}
use Rattle.pending.specs.Laws.Moved.{Shaped}
use Rattle.pending.proofs.Laws.Moved.{moved-own, moved_other, moved-tasks, moved-objects, moved-fields}
use Rattle.pending.specs.Next.{Next, may_go, entry_next, next_of, is_open}
use Rattle.pending.proofs.Laws.Next.{judged_open, next-entry}
use Rattle.pending.specs.FirstUnmet.{Ahead}
use Rattle.pending.proofs.Laws.FirstUnmet.{done_all, ahead_later, ahead-rest, ahead-onward}
use Rattle.replayer.specs.ReadyOf.{is_ready}
use Rattle.pending.specs.Run.{task_at, limits_of, moved_of}
use Rattle.scheduler.specs.Laws.Visit.{going, Note, Noted, Resumed, Visited}

pub resumed_first : (m : Limits) (b dones : List ℕ) (x : TaskRun) → Resumed m b dones x x.place
resumed_first m b dones x = record { looks = λ n k. k; note = λ scan at k h. k (omega (arith, h)) }

pub resumed_ahead : (m : Limits) (b dones : List ℕ) (x : TaskRun) (from at : ℕ) → Ahead m b dones x.place x.end from at → Resumed m b dones x from
resumed_ahead m b dones x from at w = record {
  looks = ahead-rest m b dones x.place x.end from at w;
  note = λ scan stands k h. ahead-onward m b dones x.place x.end from at scan stands w (k (omega (arith, h)));
}

-- the access that may be done, of what is next
open-going : (n : Next) → is_open n ≡ is_some (going n)
open-going (Ok (Some w)) = refl
open-going (Ok None) = refl
open-going (Err c) = refl

going-open : (n : Next) (w : Open) → going n ≡ Some w → n ≡ Ok (Some w)
going-open (Ok o) w e = ap Ok e
going-open (Err c) w e = absurd (let z : ◌≡◌ {A = ℕ} 0 1 = cc in omega arith)

-- one more task that is not ready
pub none_more : (r : Run) (b : List ℕ) (t : ℕ) → ((s : ℕ) → s < t → is_ready r b s ≡ false) → is_ready r b t ≡ false → (s : ℕ) → s < t + 1 → is_ready r b s ≡ false
none_more r b t g p s h = elim (ℕ_discrete s t) [ yes e ↦ rw e p | no e ↦ g s (omega (arith, e)) ]

-- at the start there are no notes
pub noted_none : (r : Run) (b : List ℕ) → Noted r b (replicate max_tasks 0) (replicate max_tasks 0)
noted_none r b = record { scans_all = refl; ats_all = refl; notes = λ t h. absurd (omega (arith, h, zeros-at max_tasks t)) }

module _ (r : Run) (b : List ℕ) (t : ℕ) (x : TaskRun) (m : Limits) (dones scans ats : List ℕ) (w : OneTask r t x m dones) (n : Noted r b scans ats) where
  -- the task's note, from what the code knows
  pub own_note : Note m b dones x (get_or scans t 0) (get_or ats t 0)
  own_note = rw (w.task, w.limits, ← w.counts) (n.notes t)

  -- no accesses are left
  pub visit_none : x.count ≤ x.done → Visited r b t scans ats None
  unfolding is_ready
  visit_none h = record {
    ready = rw (le-ltb _ _ (rw w.task at h));
    opens = λ o e. absurd (let z : ◌≡◌ {A = ℕ} 0 1 = cc in omega arith);
    noted = n;
  }

  -- the group is read
  pub visit_looks : x.done < x.count → (k : Next) → Looks dones x.place (group_at m b x.place x.end) k → (s a : List ℕ) → Noted r b s a → Visited r b t s a (going k)
  unfolding is_ready
  visit_looks g k l s a d =
      let e : k ≡ next_of r b t = look_next r b t x m dones w k l in
      record { ready = rw (lt-ltb _ _ (rw w.task at g), ← e) (open-going k); opens = λ o q. sym e ∙ going-open k o q; noted = d }

  module _ (f : t < max_tasks) (scan : ℕ) where
    -- a new note of the task
    pub noted_set : (at : ℕ) → Note m b dones x scan at → Noted r b (set scans t scan) (set ats t at)
    noted_set at k = record {
      scans_all = length-set scans t scan ∙ n.scans_all;
      ats_all = length-set ats t at ∙ n.ats_all;
      notes = λ u. elim (ℕ_discrete u t) [
        | yes e ↦ rw (e, get_or-set_same scans t scan 0 (omega (arith, n.scans_all)), get_or-set_same ats t at 0 (omega (arith, n.ats_all)), ← w.task, ← w.limits, w.counts) k
        | no e ↦ rw (get_or-set_other scans t u scan 0 e, get_or-set_other ats t u at 0 e) (n.notes u)
      ];
    }

    -- its orderings are tested further
    pub noted_scan : Ahead m b dones x.place x.end scan (get_or ats t 0) → Noted r b (set scans t scan) ats
    noted_scan k = rw (set-get_or ats t 0) at (noted_set (get_or ats t 0) (λ h. k))

-- a step of a ready task keeps the notes
module _ (r : Run) (b : List ℕ) (t : ℕ) (op : Op) (next : ℕ) (s : Shaped r) (f : t < max_tasks) (o : next_of r b t ≡ may_go op next) where
  risen : (u : ℕ) → u < max_tasks → get_or (dones_of r.runs) u 0 ≤ get_or (dones_of (moved_of r t next).runs) u 0
  risen u h = rw (dones_at r.runs u h, dones_at (moved_of r t next).runs u h) (elim (ℕ_discrete u t) [
    | yes e ↦ rw e (omega (arith, ap (λ (y : TaskRun). y.done) (moved-own r t next s f)))
    | no e ↦ omega (arith, ap (λ (y : TaskRun). y.done) (moved_other r t next u e))
  ])

  -- the place after the access is past its record
  past : (scan at : ℕ) → Note (limits_of r t) b (dones_of r.runs) (task_at r.runs t) scan at → at ≤ next
  unfolding next_of entry_next
  past scan at n = elim (dec_lt (task_at r.runs t).place at) [
    | yes h ↦
        let w = n h in
        let j = judged_open r.runs scan _ op next (w.same r.runs (done_all _ r.runs refl) ∙ o) in
        let e : w.entry ≡ j.entry = let q = sym w.reads ∙ j.reads in cc in
        omega (arith, w.stands, j.next, ap (λ y. length y.orderings) e)
    | no h ↦ omega (arith, h, (next-entry r b t op next o).next)
  ]

  still : (u scan at : ℕ) → Note (limits_of r u) b (dones_of r.runs) (task_at r.runs u) scan at
      → Note (limits_of (moved_of r t next) u) b (dones_of (moved_of r t next).runs) (task_at (moved_of r t next).runs u) scan at
  still u scan at n = elim (ℕ_discrete u t) [
    | yes e ↦ λ h. absurd (omega (arith, past scan at (rw e at n), ap (λ (y : TaskRun). y.place) (moved-own r t next s f), rw e at h))
    | no e ↦ rw (moved_other r t next u e, moved-tasks, moved-objects, moved-fields) (λ h. ahead_later _ _ _ _ _ _ _ _ risen (n h))
  ]

  pub noted_onward : (scans ats : List ℕ) → Noted r b scans ats → Noted (moved_of r t next) b scans ats
  noted_onward scans ats n = record { scans_all = n.scans_all; ats_all = n.ats_all; notes = λ u. still u (get_or scans u 0) (get_or ats u 0) (n.notes u) }
