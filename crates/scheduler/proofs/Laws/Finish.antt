-- A play reaches its end: each step taken leaves one access fewer, so the allowed number of steps is never used up before, and at the end
-- no task is ready, or the step of the lowest ready one gives 19.
use Rattle.std.specs.Prelude.{◌≡◌, refl, Bool, true, false, List, length}
use Rattle.std.proofs.Math.Path.{sym}
use Rattle.std.proofs.Common.{ap, ◌∙◌, add-zero, ne_eqb, eqb-true}
use Prim.Native.Nat.{ℕ, zero, suc, ◌+◌, ◌≤◌, ◌<◌}
use native.Mathlib.Omega.{arith}
use Rattle.std.proofs.Math.Decide.{ℕ_discrete}
use Rattle.std.proofs.lemmas.Bool.{eqb-false}
use Rattle.codec.specs.Laws.Decide.{passes, fails, split, never}
use Rattle.codec.specs.Limit.{max_tasks}
use Rattle.pending.specs.declared.Run.{Run}
use Rattle.scheduler.specs.Finish.{Play, word_at, task_next, goes_on, onward, played_of, left_in, left_over, finish_of, tasks_in}
use Rattle.pending.specs.Laws.Moved.{Shaped}
use Rattle.pending.proofs.Laws.Moved.{moved-own, moved_other, moved-tasks}
use Rattle.replayer.specs.Laws.ReadyOf.{ready, nowhere}
use Rattle.replayer.proofs.Laws.ReadyOf.{ready-word}
use Rattle.replayer.specs.ReadyOf.{is_ready, ready_of}
use Rattle.pending.specs.Run.{task_at, moved_of}
use Rattle.pending.specs.Sound.{sound_of}
use Rattle.pending.proofs.Laws.Sound.{sound_facts}
use Rattle.replayer.specs.Laws.StepOf.{taken, turned, differing}
use Rattle.replayer.proofs.Laws.StepOf.{step_goes, step_keeps}
use Rattle.replayer.specs.Word.{word_of, has_bit}
use Rattle.replayer.proofs.Laws.Word.{zero_bit}
use Rattle.scheduler.specs.Laws.Finish.{Ended, Ends, Onward, Playing, none-ready, stopped}

-- if no test passes, the word is 0
word_zero : (f : ℕ → Bool) (i n : ℕ) → ((s : ℕ) → s < n → f (i + s) ≡ false) → word_of f i n ≡ 0
unfolding word_of
word_zero f i zero g = refl
word_zero f i (suc n) g =
    let p : f i ≡ false = rw add-zero at (g 0 (omega arith)) in
    let q : word_of f (suc i) n ≡ 0 = word_zero f (suc i) n (λ s h. let e : suc i + s ≡ i + suc s = omega arith in rw e (g (suc s) (omega arith))) in
    rw (p, q)

-- a word that is not 0 has the bit of a ready task
module _ (r : Run) (b : List ℕ) (s : sound_of r (length b) ≡ true) where
  pub ready-word_zero : ((t : ℕ) → t < r.tasks → is_ready r b t ≡ false) → (ready_of r b).word ≡ 0
  unfolding ready_of
  ready-word_zero g = rw s (word_zero (is_ready r b) 0 r.tasks (λ t h. let e : 0 + t ≡ t = omega arith in rw e (g t h)))

-- what a step takes from the accesses left
left-same : (r : Run) (t next n : ℕ) → n ≤ t → left_in (moved_of r t next).runs n ≡ left_in r.runs n
unfolding left_in
left-same r t next zero h = refl
left-same r t next (suc n) h = rw (moved_other r t next n (λ e. omega arith), left-same r t next n (omega arith))

pub left_less : (r : Run) (t next n : ℕ) → Shaped r → t < max_tasks → (task_at r.runs t).done < (task_at r.runs t).count → t < n
    → left_in (moved_of r t next).runs n + 1 ≡ left_in r.runs n
unfolding left_in
left_less r t next zero s k l h = absurd (omega arith)
left_less r t next (suc n) s k l h = elim (ℕ_discrete n t) [
  | yes e ↦ rw (e, moved-own r t next s k, left-same r t next t (omega arith)) (omega arith)
  | no e ↦ rw (moved_other r t next n e) (omega (arith, left_less r t next n s k l (omega (arith, e))))
]

module _ (b : List ℕ) (x : Play) (w : Playing b x) where
  kept : Playing b (onward b x)
  unfolding onward
  kept =
      let k = step_keeps x.run b x.memory (task_next b x) w.sound w.shaped w.entries in
      record { sound = k.sound; shaped = k.shaped; entries = k.entries ∙ w.entries ∙ sym k.cells }

  pub goes_onward : goes_on b x ≡ true → Onward b x
  unfolding onward
  goes_onward z = elim (step_goes x.run b x.memory (task_next b x) w.sound w.entries) [
    | taken op next g ↦ record {
      playing = kept;
      fewer = rw (g.run, moved-tasks x.run (task_next b x) next)
          (left_less x.run (task_next b x) next x.run.tasks w.shaped (omega (arith, g.below, (sound_facts x.run (length b) w.sound).few_tasks)) g.left g.below);
    }
    | turned u f g ↦ absurd (g.number (eqb-true _ _ z))
    | differing op next d g ↦ absurd (g.number (eqb-true _ _ z))
  ]

  -- the lowest ready task, if one is ready
  pub none_or_lowest : (task_next b x < x.run.tasks → is_ready x.run b (task_next b x) ≡ false) → word_at b x ≡ 0
  none_or_lowest u = elim (ready-word x.run b w.sound).lowest [
    | ready h p g ↦ absurd (never (is_ready x.run b (task_next b x)) (let e : 0 + task_next b x ≡ task_next b x = omega arith in rw e at p) (u h))
    | nowhere e g ↦ ready-word_zero x.run b w.sound (λ t h. let e : 0 + t ≡ t = omega arith in rw e at (g t h))
  ]

  pub goes_ends : goes_on b x ≡ false → Ends b x
  goes_ends z = elim (step_goes x.run b x.memory (task_next b x) w.sound w.entries) [
    | taken op next g ↦ absurd (eqb-false _ _ z g.number)
    | turned u f g ↦ none-ready (none_or_lowest u)
    | differing op next d g ↦ stopped op next d
  ]

  -- a ready task is in the word
  pub ready-some : (t : ℕ) → t < x.run.tasks → is_ready x.run b t ≡ true → word_at b x ≡ 0 → ⊥
  ready-some t h p z = never (has_bit (word_at b x) t) ((ready-word x.run b w.sound).bit t h ∙ p) (ap (λ (n : ℕ). has_bit n t) z ∙ zero_bit t)

  pub none_stops : word_at b x ≡ 0 → goes_on b x ≡ false
  none_stops z = elim (step_goes x.run b x.memory (task_next b x) w.sound w.entries) [
    | taken op next g ↦ absurd (ready-some (task_next b x) g.below g.ready z)
    | turned u f g ↦ ne_eqb _ 0 g.number
    | differing op next d g ↦ ne_eqb _ 0 g.number
  ]

  -- the loop: one pass, and the end
  pub finish_on : goes_on b x ≡ true → finish_of b x ≡ finish_of b (onward b x)
  unfolding played_of
  finish_on z =
      let f : left_over x.run ≡ suc (left_over (onward b x).run) = omega (arith, (goes_onward z).fewer) in
      rw (f, z)

stays_put : (n : ℕ) (b : List ℕ) (x : Play) → goes_on b x ≡ false → played_of n b x ≡ x
unfolding played_of
stays_put zero b x z = refl
stays_put (suc n) b x z = rw z

pub finish_end : (b : List ℕ) (x : Play) → goes_on b x ≡ false → finish_of b x ≡ x
finish_end b x z = stays_put (left_over x.run) b x z

plays-out : (n : ℕ) (b : List ℕ) (x : Play) → Playing b x → left_over x.run ≤ n → Ended b (played_of n b x)
unfolding played_of
plays-out zero b x w h = elim (split (goes_on b x)) [
  | fails z ↦ record { playing = w; over = z }
  | passes z ↦ absurd (omega (arith, (goes_onward b x w z).fewer))
]
plays-out (suc n) b x w h = elim (split (goes_on b x)) [
  | fails z ↦ rw z (record { playing = w; over = z })
  | passes z ↦ rw z (plays-out n b (onward b x) (goes_onward b x w z).playing (omega (arith, (goes_onward b x w z).fewer)))
]

pub finish_ended : (b : List ℕ) (x : Play) → Playing b x → Ended b (finish_of b x)
finish_ended b x w = plays-out (left_over x.run) b x w (omega arith)

pub finish_ends : (b : List ℕ) (x : Play) → Playing b x → Ends b (finish_of b x)
finish_ends b x w = let e = finish_ended b x w in goes_ends b (finish_of b x) e.playing e.over

pub tasks-few : (tasks : ℕ) → tasks_in tasks ≤ max_tasks
tasks-few tasks = omega arith
