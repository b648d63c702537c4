-- The lowest ready task of a run and its next access, if there is one (document 01, "Replay"); and the run after that access.
use Rattle.std.specs.Prelude.{Option, Some, None, Ok, Err, Bool, true, false, List, ℕ, ◌+◌, ◌≤◌, ◌<◌, ◌≡◌, refl, length}
use Rattle.std.proofs.Common.{sym, ◌∙◌, arith, ltb-true, eq-eqb, ne_eqb}
use Rattle.std.proofs.Math.Path.{ap}
use Rattle.std.proofs.Math.Decide.{dec_lt}
use Rattle.pending.specs.declared.Run.{Run}
use Rattle.scheduler.specs.declared.lowest.Chosen.{Chosen}
use Rattle.pending.specs.Next.{Next, may_go, next_of, is_open}
use Rattle.replayer.specs.ReadyOf.{ready_of, has_left, is_ready}
use Rattle.scheduler.specs.Schedule.{next_task, behind_of}
use Rattle.codec.specs.Laws.Decide.{both_pass, never}
use Rattle.codec.specs.declared.Op.{Op}
use Rattle.codec.specs.Limit.{max_tasks}
use Rattle.scheduler.specs.Finish.{Play}
use Rattle.scheduler.specs.Laws.Finish.{Playing}
use Rattle.scheduler.proofs.Laws.Finish.{left_less, ready-word_zero}
use Rattle.pending.specs.Laws.Moved.{Shaped}
use Rattle.pending.proofs.Laws.Moved.{moved-tasks, moved_sound}
use Rattle.pending.proofs.Laws.Next.{next-within}
use Rattle.replayer.specs.Laws.ReadyOf.{LowestIs, ready, nowhere}
use Rattle.replayer.proofs.Laws.ReadyOf.{ready-word}
use Rattle.pending.specs.Run.{task_at, moved_of}
use Rattle.pending.specs.Sound.{sound_of}
use Rattle.codec.specs.Number.{differs}
use Rattle.replayer.specs.Memory.{agrees}
use Rattle.replayer.specs.StepOf.{refused_step, done_step, record_at, on_next, step_of}
use Rattle.replayer.proofs.Laws.StepCode.{clear_early_number, step-next}
use Rattle.pending.proofs.Laws.Sound.{sound_facts, sound_test}
use Rattle.scheduler.proofs.Laws.Visit.{noted_onward}
use Rattle.replayer.specs.Word.{has_bit, lowest_in, lowest_ready}
use Rattle.codec.specs.Cell.{op_cell}
use Rattle.scheduler.specs.Laws.Lowest.{Behind, IsNext, Standing, SteppedTo, after_of, goes_on_lem, lowest_of, stops}

-- there is only one lowest
lowest-same : (f : ℕ → Bool) (n t u : ℕ) → LowestIs max_tasks f 0 n u → t < n → f t ≡ true → ((s : ℕ) → s < t → f s ≡ false) → u ≡ t
lowest-same f n t u (nowhere e g) h p k = absurd (let o : 0 + t ≡ t = omega arith in never (f t) p (rw o at (g t h)))
lowest-same f n t u (ready l q g) h p k =
    let o : 0 + t ≡ t = omega arith in
    let v : 0 + u ≡ u = omega arith in
    elim (dec_lt u t) [
      | yes d ↦ absurd (never (f u) (rw v at q) (k u d))
      | no d ↦ elim (dec_lt t u) [
        | yes c ↦ absurd (never (f t) p (rw o at (g t c)))
        | no c ↦ omega (arith, c, d)
      ]
    ]

no_lowest : lowest_ready 0 ≡ max_tasks
unfolding lowest_in has_bit
no_lowest = refl

-- a ready task has accesses left
pub ready-left : (r : Run) (b : List ℕ) (t : ℕ) → is_ready r b t ≡ true → (task_at r.runs t).done < (task_at r.runs t).count
unfolding is_ready
ready-left r b t q = ltb-true _ _ (both_pass (has_left r t) _ q).0

module _ (r : Run) (b : List ℕ) where
  pub lowest-next : (t : ℕ) (op : Op) (next : ℕ) → IsNext r b t op next → (lowest_of r b ≡ Some (record { task = t; op = op })) × (after_of r b ≡ moved_of r t next)
  unfolding lowest_of after_of behind_of
  lowest-next t op next w = rw (ne_eqb (ready_of r b).word 0 w.goes, w.first, w.opens) (refl, refl)

  pub lowest-none : (ready_of r b).word ≡ 0 → (lowest_of r b ≡ None) × (after_of r b ≡ r)
  unfolding lowest_of after_of
  lowest-none z = rw (eq-eqb (ready_of r b).word 0 z) (refl, refl)

  module _ (s : sound_of r (length b) ≡ true) where
    is-next : (t : ℕ) (op : Op) (next : ℕ) → t < r.tasks → is_ready r b t ≡ true → next_of r b t ≡ may_go op next → next_task b r ≡ t → IsNext r b t op next
    unfolding is_ready
    is-next t op next h q n e =
        let f : t < max_tasks = omega (arith, (sound_facts r (length b) s).few_tasks) in
        record { below = h; few = f; left = (both_pass (has_left r t) _ q).0; goes = λ z. omega (arith, e, ap lowest_ready z ∙ no_lowest); first = e; opens = n }

    -- the tasks are tested from 0 on: the first one that may go, or none
    pub visit_first : (t : ℕ) (op : Op) (next : ℕ) → t < r.tasks → is_ready r b t ≡ true → next_of r b t ≡ may_go op next → ((u : ℕ) → u < t → is_ready r b u ≡ false) → IsNext r b t op next
    visit_first t op next h q n g = is-next t op next h q n (lowest-same (is_ready r b) r.tasks t (next_task b r) (ready-word r b s).lowest h q g)

    pub visit_all : (t : ℕ) → r.tasks ≤ t → ((u : ℕ) → u < t → is_ready r b u ≡ false) → (ready_of r b).word ≡ 0
    visit_all t h g = ready-word_zero r b s (λ u k. g u (omega arith))

    closed : is_ready r b (next_task b r) ≡ true → is_open (next_of r b (next_task b r)) ≡ false → ⊥
    unfolding is_ready
    closed q n = never (is_open (next_of r b (next_task b r))) (both_pass (has_left r (next_task b r)) _ q).1 n

    pub standing : Standing r b
    standing = elim (ready-word r b s).lowest [
      | ready h p g ↦ opened (next_of r b (next_task b r)) refl h (let e : 0 + next_task b r ≡ next_task b r = omega arith in rw e at p)
      | nowhere e g ↦ stops (ready-word_zero r b s (λ t h. let e : 0 + t ≡ t = omega arith in rw e at (g t h)))
    ]
      where
        opened : (n : Next) → next_of r b (next_task b r) ≡ n → next_task b r < r.tasks → is_ready r b (next_task b r) ≡ true → Standing r b
        opened (Ok (Some w)) e h q = goes_on_lem (next_task b r) w.op w.next (is-next (next_task b r) w.op w.next h q e refl)
        opened (Ok None) e h q = absurd (closed q (rw e))
        opened (Err c) e h q = absurd (closed q (rw e))

    -- the result says which
    pub found-next : (n : Option Chosen) (q : Run) (x : Chosen) → n ≡ lowest_of r b → q ≡ after_of r b → n ≡ Some x → SteppedTo r b x.task x.op q
    found-next n q x e f h = elim standing [
      | goes_on_lem u o k w ↦
          let g : Some x ≡ Some (record { task = u; op = o }) = sym h ∙ e ∙ (lowest-next u o k w).0 in
          let y : record { task = u; op = o } ≡ x = cc in
          rw (← y) (record { next = k; is = w; run = f ∙ (lowest-next u o k w).1 })
      | stops z ↦ absurd (let g : Some x ≡ None = sym h ∙ e ∙ (lowest-none z).0 in let o : ◌≡◌ {A = ℕ} 0 1 = cc in omega arith)
    ]

    pub found_none : (n : Option Chosen) (q : Run) → n ≡ lowest_of r b → q ≡ after_of r b → n ≡ None → ((ready_of r b).word ≡ 0) × (q ≡ r)
    found_none n q e f h = elim standing [
      | goes_on_lem t op next w ↦ absurd (let g : None ≡ Some (record { task = t; op = op }) = sym h ∙ e ∙ (lowest-next t op next w).0 in let o : ◌≡◌ {A = ℕ} 0 1 = cc in omega arith)
      | stops z ↦ (z, f ∙ (lowest-none z).1)
    ]

pub behind : (r : Run) (b : List ℕ) (t : ℕ) (op : Op) (next : ℕ) → sound_of r (length b) ≡ true → Shaped r → IsNext r b t op next → Behind r b t next
behind r b t op next s h w =
    let f = sound_facts r (length b) s in
    let l : (task_at r.runs t).done < (task_at r.runs t).count = ltb-true _ _ w.left in
    record {
      sound = sound_test (moved_of r t next) (length b) (moved_sound r t next (length b) h f w.below l (next-within r b t op next w.opens (f.task t w.below).end).1);
      fewer = rw (moved-tasks r t next) (left_less r t next r.tasks h w.few l w.below);
      noted = noted_onward r b t op next h w.few w.opens;
    }

-- what the step of the next task does: it is taken if the memory agrees with the access, else it gives 19
module _ (b : List ℕ) (x : Play) (w : Playing b x) (t : ℕ) (op : Op) (next : ℕ) (n : IsNext x.run b t op next) where
  step_open : step_of x.run b x.memory t ≡ on_next x.run x.memory t (may_go op next)
  step_open =
      step-next x.run b x.memory t 0
      (sym (clear_early_number x.run (length b) (length x.memory) t (record { sound = w.sound; memory = w.entries; below = n.below; left = n.left })))
      refl (may_go op next) (sym n.opens)

  pub step-agrees : agrees (op_cell x.run.fields op) op x.memory ≡ true → step_of x.run b x.memory t ≡ done_step x.run x.memory t op next
  unfolding on_next
  step-agrees a = step_open ∙ rw a

  pub step-differs : agrees (op_cell x.run.fields op) op x.memory ≡ false → step_of x.run b x.memory t ≡ record { answer = refused_step x.run differs (record_at op next); memory = x.memory }
  unfolding on_next
  step-differs a = step_open ∙ rw a
