-- The order of a play: it is the order in which the play to the end steps the tasks, up to the first step that is not taken; if no task is
-- ready at the end, each of its steps is taken.
use Rattle.std.specs.Prelude.{◌≡◌, refl, true, false, List, [], ◌∷◌, ℕ, zero, suc, ◌≤◌, length}
use Rattle.std.proofs.Common.{sym, ap, ◌∙◌, arith, eq-eqb, ne_eqb, eqb-true}
use Rattle.std.proofs.Math.Decide.{ℕ_discrete}
use Rattle.codec.specs.declared.Op.{Op}
use Rattle.codec.specs.Laws.Decide.{passes, fails, split}
use Rattle.pending.specs.declared.Run.{Run}
use Rattle.scheduler.specs.Finish.{Play, word_at, task_next, takes_step, stepped_by, goes_on, onward, played_of, left_over, finish_of}
use Rattle.scheduler.specs.Laws.Finish.{Playing}
use Rattle.scheduler.proofs.Laws.Finish.{goes_onward, none_stops}
use Rattle.scheduler.specs.Laws.Lowest.{IsNext, goes_on_lem, stops}
use Rattle.scheduler.proofs.Laws.Lowest.{standing, behind, step-agrees, step-differs}
use Rattle.pending.specs.Laws.Moved.{Shaped}
use Rattle.pending.proofs.Laws.Moved.{moved_shaped}
use Rattle.pending.specs.Next.{may_go, next_of}
use Rattle.replayer.specs.ReadyOf.{ready_of}
use Rattle.pending.specs.Run.{moved_of}
use Rattle.scheduler.specs.Schedule.{next_task, behind_of, schedule_from, schedule_of, ran_by, settled_of, played_by}
use Rattle.pending.specs.Sound.{sound_of}
use Rattle.replayer.specs.Laws.StepOf.{taken, turned, differing}
use Rattle.replayer.proofs.Laws.StepOf.{step_goes, step_keeps}
use Rattle.replayer.specs.Memory.{agrees}
use Rattle.codec.specs.Cell.{op_cell}
use Rattle.scheduler.specs.Laws.Schedule.{AllTaken, StepTaken, StepsTo}

-- no task is ready, or the next one is stepped
pub schedule_stops : (n : ℕ) (b : List ℕ) (r : Run) → (ready_of r b).word ≡ 0 → schedule_from n b r ≡ []
unfolding schedule_from
schedule_stops zero b r z = refl
schedule_stops (suc n) b r z = rw (eq-eqb (ready_of r b).word 0 z)

pub schedule_goes : (n : ℕ) (b : List ℕ) (r : Run) (t : ℕ) (op : Op) (next : ℕ) → IsNext r b t op next → schedule_from (suc n) b r ≡ t ∷ schedule_from n b (moved_of r t next)
unfolding schedule_from behind_of
schedule_goes n b r t op next w = rw (ne_eqb (ready_of r b).word 0 w.goes, w.first, w.opens)

pub schedule_next : (b : List ℕ) (r : Run) → sound_of r (length b) ≡ true → Shaped r → (t : ℕ) (op : Op) (next : ℕ) → IsNext r b t op next
    → schedule_of b r ≡ t ∷ schedule_of b (moved_of r t next)
schedule_next b r s h t op next w =
    let f : left_over r ≡ suc (left_over (moved_of r t next)) = omega (arith, (behind r b t op next s h w).fewer) in
    rw f (schedule_goes (left_over (moved_of r t next)) b r t op next w)

short : (n : ℕ) (b : List ℕ) (r : Run) → length (schedule_from n b r) ≤ n
unfolding schedule_from
short zero b r = omega arith
short (suc n) b r = elim (ℕ_discrete (ready_of r b).word 0) [
  | yes z ↦ rw (eq-eqb (ready_of r b).word 0 z) (omega arith)
  | no z ↦ rw (ne_eqb (ready_of r b).word 0 z) (omega (arith, short n b (behind_of r (next_task b r) (next_of r b (next_task b r)))))
]

pub schedule_short : (b : List ℕ) (r : Run) → length (schedule_of b r) ≤ left_over r
schedule_short b r = short (left_over r) b r

-- as many steps as the order has are enough, or as many as accesses are left
pub schedule_within : (b : List ℕ) (n : ℕ) (r : Run) → sound_of r (length b) ≡ true → Shaped r → length (schedule_of b r) ≤ n → schedule_from n b r ≡ schedule_of b r
schedule_within b zero r s h l = elim (standing r b s) [
  | stops z ↦ rw (schedule_stops (left_over r) b r z, schedule_stops zero b r z)
  | goes_on_lem t op next w ↦ absurd (omega (arith, rw (schedule_next b r s h t op next w) at l))
]
schedule_within b (suc n) r s h l = elim (standing r b s) [
  | stops z ↦ rw (schedule_stops (left_over r) b r z, schedule_stops (suc n) b r z)
  | goes_on_lem t op next w ↦
      let e = schedule_next b r s h t op next w in
      let k : length (schedule_of b (moved_of r t next)) ≤ n = omega (arith, rw e at l) in
      rw (e, schedule_goes n b r t op next w, schedule_within b n (moved_of r t next) (behind r b t op next s h w).sound (moved_shaped r t next h) k)
]

pub schedule_enough : (b : List ℕ) (r : Run) (n : ℕ) → sound_of r (length b) ≡ true → Shaped r → left_over r ≤ n → schedule_from n b r ≡ schedule_of b r
schedule_enough b r n s h l = schedule_within b n r s h (omega (arith, schedule_short b r))

-- a play that goes on takes the step of the next task
taken-first : (b : List ℕ) (x : Play) (t : ℕ) (ts : List ℕ) → takes_step b x t ≡ true → played_by b x (t ∷ ts) ≡ played_by b (stepped_by b x t) ts
unfolding played_by
taken-first b x t ts z = rw z

played_steps : (n : ℕ) (b : List ℕ) (x : Play) → StepsTo b x (played_of n b x)
unfolding played_of played_by onward AllTaken
played_steps zero b x = record { steps = []; all = tt; leads = refl }
played_steps (suc n) b x = elim (split (goes_on b x)) [
  | fails z ↦ rw z (record { steps = []; all = tt; leads = refl })
  | passes z ↦
      let s = played_steps n b (onward b x) in
      rw z (record { steps = task_next b x ∷ s.steps; all = (eqb-true _ _ z, s.all); leads = taken-first b x (task_next b x) s.steps z ∙ s.leads })
]

pub step-taken : (b : List ℕ) (x : Play) → Playing b x → (t : ℕ) (op : Op) (next : ℕ) → IsNext x.run b t op next → agrees (op_cell x.run.fields op) op x.memory ≡ true → StepTaken b x t next
unfolding onward
step-taken b x w t op next n a =
    let e = step-agrees b x w t op next n a in
    let s : onward b x ≡ stepped_by b x t = ap (stepped_by b x) n.first in
    let g : goes_on b x ≡ true = rw (n.first, e) in
    record { number = rw e; run = rw (e, stepped_by); goes = g; takes = rw e; same = s; playing = rw s at (goes_onward b x w g).playing }

-- a play whose next step gives 19 stays where it is
step_stays : (b : List ℕ) (x : Play) → Playing b x → (t : ℕ) (op : Op) (next : ℕ) → IsNext x.run b t op next → agrees (op_cell x.run.fields op) op x.memory ≡ false
    → (takes_step b x t ≡ false) × (goes_on b x ≡ false)
step_stays b x w t op next n a = let e = step-differs b x w t op next n a in (rw e, rw (n.first, e))

finishes : (n : ℕ) (b : List ℕ) (x : Play) → Playing b x → played_by b x (schedule_from n b x.run) ≡ played_of n b x
unfolding schedule_from played_by played_of
finishes zero b x w = refl
finishes (suc n) b x w = elim (standing x.run b w.sound) [
  | stops z ↦ rw (eq-eqb (ready_of x.run b).word 0 z, none_stops b x w z)
  | goes_on_lem t op next k ↦ elim (split (agrees (op_cell x.run.fields op) op x.memory)) [
    | passes a ↦
        let s = step-taken b x w t op next k a in
        rw (schedule_goes n b x.run t op next k, s.takes, s.goes, s.same, s.run) (finishes n b (stepped_by b x t) s.playing)
    | fails a ↦ let s = step_stays b x w t op next k a in rw (schedule_goes n b x.run t op next k, s.0, s.1)
  ]
]

-- an access that may be done, in a run without a memory
behind_open : (b : List ℕ) (r : Run) (t : ℕ) (op : Op) (next : ℕ) → next_of r b t ≡ may_go op next → behind_of r t (next_of r b t) ≡ moved_of r t next
unfolding behind_of
behind_open b r t op next o = rw o

pub ran_one : (b : List ℕ) (r : Run) (t : ℕ) (op : Op) (next : ℕ) (ts : List ℕ) → next_of r b t ≡ may_go op next → ran_by b r (t ∷ ts) ≡ ran_by b (moved_of r t next) ts
unfolding ran_by
ran_one b r t op next ts o = ap (λ (q : Run). ran_by b q ts) (behind_open b r t op next o)

-- taken steps lead where the run without a memory goes
pub taken_ran : (b : List ℕ) (x : Play) (steps : List ℕ) → Playing b x → AllTaken b x steps → (played_by b x steps).run ≡ ran_by b x.run steps
unfolding played_by ran_by AllTaken
taken_ran b x [] w a = refl
taken_ran b x (t ∷ steps) w a = elim (step_goes x.run b x.memory t w.sound w.entries) [
  | taken op next g ↦
      let k = step_keeps x.run b x.memory t w.sound w.shaped w.entries in
      let p : Playing b (stepped_by b x t) = record { sound = k.sound; shaped = k.shaped; entries = k.entries ∙ w.entries ∙ sym k.cells } in
      rw (eq-eqb _ 0 a.0) (taken_ran b (stepped_by b x t) steps p a.1 ∙ ap (λ (q : Run). ran_by b q steps) (g.run ∙ sym (behind_open b x.run t op next g.opens)))
  | turned u f g ↦ absurd (g.number a.0)
  | differing op next d g ↦ absurd (g.number a.0)
]

-- if at the end no task is ready, every step of the order was taken
takes : (n : ℕ) (b : List ℕ) (x : Play) → Playing b x → word_at b (played_of n b x) ≡ 0 → AllTaken b x (schedule_from n b x.run)
unfolding schedule_from played_of AllTaken
takes zero b x w e = tt
takes (suc n) b x w e = elim (standing x.run b w.sound) [
  | stops z ↦ rw (eq-eqb (ready_of x.run b).word 0 z) tt
  | goes_on_lem t op next k ↦ elim (split (agrees (op_cell x.run.fields op) op x.memory)) [
    | passes a ↦
        let s = step-taken b x w t op next k a in
        rw (schedule_goes n b x.run t op next k, s.run) (s.number, takes n b (stepped_by b x t) s.playing (rw (s.goes, s.same) at e))
    | fails a ↦ absurd (k.goes (rw (step_stays b x w t op next k a).1 at e))
  ]
]

module _ (b : List ℕ) (x : Play) (w : Playing b x) where
  pub schedule_finish : played_by b x (schedule_of b x.run) ≡ finish_of b x
  schedule_finish = finishes (left_over x.run) b x w

  pub finish_steps : StepsTo b x (finish_of b x)
  finish_steps = played_steps (left_over x.run) b x

  pub schedule_taken : word_at b (finish_of b x) ≡ 0 → AllTaken b x (schedule_of b x.run)
  schedule_taken z = takes (left_over x.run) b x w z

  -- if every step is taken, the play ends where the run without a memory does
  pub schedule_settled : AllTaken b x (schedule_of b x.run) → (played_by b x (schedule_of b x.run)).run ≡ settled_of b x.run
  schedule_settled a = taken_ran b x (schedule_of b x.run) w a
