-- One pass of the play to the end: the lowest ready task's access is done on the memory if the memory agrees with it, and the run after it.
use Rattle.std.specs.Prelude.{◌≡◌, refl, Bool, false, not, List, ℕ, ◌+◌, ◌<◌}
use Rattle.std.proofs.Math.Path.{sym, ap}
use Rattle.std.proofs.Common.{◌∙◌, arith, eq-eqb, ne_eqb}
use Rattle.std.proofs.Math.Bool.{true}
use Rattle.codec.specs.declared.Op.{Op}
use Rattle.codec.specs.Laws.Decide.{passes, fails, split, never}
use Rattle.codec.specs.Limit.{max_tasks}
use Rattle.codec.specs.Number.{differs}
use Rattle.entries.specs.declared.Checked.{Checked}
use Rattle.entries.specs.Reading.{numbered}
use Rattle.pending.proofs.Laws.All.{all_facts}
use Rattle.pending.specs.declared.Run.{Run}
use Rattle.scheduler.specs.Finish.{Play, goes_on, onward, left_over, finish_of, tasks_in, is_done, finished_of}
use Rattle.playback.specs.Shown.{stopped_of, shown_play}
use Rattle.scheduler.specs.Laws.Finish.{Playing, Onward}
use Rattle.scheduler.proofs.Laws.Finish.{goes_onward, none_stops, finish_on, finish_end}
use Rattle.scheduler.specs.Laws.Lowest.{IsNext}
use Rattle.scheduler.proofs.Laws.Lowest.{step-agrees, step-differs}
use Rattle.replayer.specs.Memory.{performed, agrees}
use Rattle.replayer.specs.ReadyOf.{has_left, ready_of}
use Rattle.pending.specs.Run.{moved_of}
use Rattle.replayer.specs.StepOf.{record_at}
use Rattle.codec.specs.Cell.{op_cell}

-- a play under way: each step leaves one access fewer, and the end it will reach is the same
pub record Going (b : List ℕ) (start x : Play) : Type 0 where
  pub playing : Playing b x
  pub steps : x.steps + left_over x.run ≡ left_over start.run
  pub same : finish_of b x ≡ finish_of b start

pub going_start : (b : List ℕ) (x : Play) → Playing b x → x.steps ≡ 0 → Going b x x
going_start b x w z = record { playing = w; steps = omega arith; same = refl }

-- a run with accesses left to a task has not finished
left_unfinished : (r : Run) (t : ℕ) → t < r.tasks → t < max_tasks → has_left r t ≡ true → finished_of r ≡ false
left_unfinished r t h k l = elim (split (finished_of r)) [
  | fails p ↦ p
  | passes p ↦ absurd (never (not (has_left r t)) (all_facts (is_done r) (tasks_in r.tasks) p t (omega arith)) (rw l))
]

-- the answer about a play that has ended
shown_so : (b : List ℕ) (x y : Play) (f : Bool) (c : Checked) → x ≡ y → f ≡ finished_of x.run → c ≡ stopped_of b x
    → (record { tasks = x.run.tasks; objects = x.run.objects; steps = x.steps; finished = f; stopped = c } ≡ shown_play b y) × (x.memory ≡ y.memory)
shown_so b x y f c q e s = (rw (e, s) (ap (shown_play b) q), ap (λ (z : Play). z.memory) q)

module _ (b : List ℕ) (start x : Play) (g : Going b start x) where
  module _ (t : ℕ) (op : Op) (next : ℕ) (n : IsNext x.run b t op next) where
    pub going_on : agrees (op_cell x.run.fields op) op x.memory ≡ true → (r : Run) (m : List ℕ) → r ≡ moved_of x.run t next → m ≡ performed (op_cell x.run.fields op) op x.memory
        → Going b start (record { run = r; memory = m; steps = x.steps + 1 })
    unfolding onward
    going_on a r m q e =
        let d = step-agrees b x g.playing t op next n a in
        let z : goes_on b x ≡ true = rw (n.first, d) in
        let o : Onward b x = goes_onward b x g.playing z in
        let s : onward b x ≡ record { run = r; memory = m; steps = x.steps + 1 } = rw (n.first, d, q, e) in
        rw (← s) (record { playing = o.playing; steps = omega (arith, o.fewer, g.steps, ap (λ (y : Play). y.steps) s); same = sym (finish_on b x g.playing z) ∙ g.same })

    -- the memory differs from the read's record: the answer
    pub going_stopped : agrees (op_cell x.run.fields op) op x.memory ≡ false → (at : ℕ) → at ≡ record_at op next
        → (record { tasks = x.run.tasks; objects = x.run.objects; steps = x.steps; finished = false; stopped = numbered differs at } ≡ shown_play b (finish_of b start))
        × (x.memory ≡ (finish_of b start).memory)
    going_stopped a at e =
        let d = step-differs b x g.playing t op next n a in
        let q : x ≡ finish_of b start = sym (finish_end b x (rw (n.first, d))) ∙ g.same in
        shown_so b x (finish_of b start) false (numbered differs at) q (sym (left_unfinished x.run t n.below n.few n.left))
        (rw (ne_eqb (ready_of x.run b).word 0 n.goes, n.first, d, e))

  -- no task is ready: the answer
  pub going_end : (ready_of x.run b).word ≡ 0 → (f : Bool) → f ≡ finished_of x.run
      → (record { tasks = x.run.tasks; objects = x.run.objects; steps = x.steps; finished = f; stopped = numbered 0 0 } ≡ shown_play b (finish_of b start)) × (x.memory ≡ (finish_of b start).memory)
  going_end z f e =
      let q : x ≡ finish_of b start = sym (finish_end b x (none_stops b x g.playing z)) ∙ g.same in
      shown_so b x (finish_of b start) f (numbered 0 0) q e (rw (eq-eqb (ready_of x.run b).word 0 z))
