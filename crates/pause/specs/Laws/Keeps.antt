-- What following a list of steps keeps: a play whose numbers fit their fields, with no task beyond its count. Such a run without the
-- accesses beyond the counts is sound.
use Rattle.std.specs.Prelude.{◌≡◌, refl, true, false, List, [], ◌∷◌, ℕ, zero, suc, ◌+◌, ◌≤◌, ◌<◌, eqb, length, get_or}
use Rattle.std.proofs.Common.{sym, ap, subst, ◌∙◌, arith, eqb-true, lt-ltb, leb-false}
use Rattle.std.proofs.Math.Decide.{ℕ_discrete, dec_lt}
use Rattle.codec.specs.Field.{Bytes}
use Rattle.codec.specs.Laws.Decide.{passes, fails, split}
use Rattle.codec.specs.Limit.{max_tasks}
use Rattle.pending.specs.declared.Run.{Run}
use Rattle.pending.specs.declared.TaskRun.{TaskRun}
use Rattle.pending.specs.Laws.Moved.{Shaped}
use Rattle.pending.proofs.Laws.Moved.{moved-own, moved_other}
use Rattle.pending.proofs.Laws.Sound.{sound_facts, sound_test}
use Rattle.pending.specs.Run.{task_at, done_of, moved_of}
use Rattle.pending.specs.Sound.{sound_of}
use Rattle.replayer.specs.Laws.StepOf.{taken, turned, differing}
use Rattle.replayer.proofs.Laws.StepOf.{step_goes}
use Rattle.scheduler.specs.Finish.{Play, takes_step, stepped_by, left_in, left_over}
use Rattle.transcript.specs.Laws.ToldBound.{Small}
use Rattle.transcript.proofs.Laws.ToldBound.{stays}
use Rattle.follow.specs.Follow.{is_passed, answer_at, tried_of, is_over, followed_of}
use Rattle.follow.specs.Laws.Within.{held-length}
use Rattle.follow.specs.Within.{is_there, held_by, held_to, run_within}

-- no task beyond its count
abbrev pub WithinCounts : List ℕ → Run → Type 0
WithinCounts counts r = (t : ℕ) → t < length counts → done_of r.runs t ≤ get_or counts t 0

pub record Standing (b counts : List ℕ) (x : Play) : Type 0 where
  pub small : Small b x
  pub few : length counts ≤ max_tasks
  pub held : WithinCounts counts x.run

not_there : (counts : List ℕ) (r : Run) (t : ℕ) → is_there counts r t ≡ false → t < length counts → done_of r.runs t < get_or counts t 0
unfolding is_there
not_there counts r t p h = leb-false _ _ (rw (lt-ltb t (length counts) h) at p)

module _ (b : List ℕ) (by : Bytes b) (counts : List ℕ) (x : Play) (w : Standing b counts x) (t : ℕ) (n : is_there counts x.run t ≡ false) where
  moved : takes_step b x t ≡ true → (next : ℕ) × (t < max_tasks) × ((stepped_by b x t).run ≡ moved_of x.run t next)
  moved z = elim (step_goes x.run b x.memory t w.small.playing.sound w.small.playing.entries) [
    | turned k f g ↦ absurd (g.number (eqb-true _ _ z))
    | differing op next d g ↦ absurd (g.number (eqb-true _ _ z))
    | taken op next g ↦ (next, omega (arith, g.below, (sound_facts _ _ w.small.playing.sound).few_tasks), g.run)
  ]

  own_held : takes_step b x t ≡ true → t < length counts → done_of (stepped_by b x t).run.runs t ≤ get_or counts t 0
  own_held z h =
      let (next, few, g) = moved z in
      let d : done_of (stepped_by b x t).run.runs t ≡ done_of x.run.runs t + 1 = ap (λ (r : Run). done_of r.runs t) g ∙ ap (λ (y : TaskRun). y.done) (moved-own x.run t next w.small.playing.shaped few) in
      omega (arith, d, not_there counts x.run t n h)

  taken-held : takes_step b x t ≡ true → WithinCounts counts (stepped_by b x t).run
  taken-held z u h = elim (ℕ_discrete u t) [
    | yes e ↦ subst (λ (v : ℕ). done_of (stepped_by b x t).run.runs v ≤ get_or counts v 0) (sym e) (own_held z (subst (λ (v : ℕ). v < length counts) e h))
    | no e ↦
        let (next, few, g) = moved z in
        let d : done_of (stepped_by b x t).run.runs u ≡ done_of x.run.runs u = ap (λ (r : Run). done_of r.runs u) g ∙ ap (λ (y : TaskRun). y.done) (moved_other x.run t next u e) in
        omega (arith, d, w.held u h)
  ]

  pub tried_stands : Standing b counts (tried_of b x t).play
  unfolding tried_of
  tried_stands = elim (split (takes_step b x t)) [
    | passes p ↦ rw p (record { small = (stays b by x t w.small (eqb-true _ _ p)).small; few = w.few; held = taken-held p })
    | fails p ↦ elim (split (is_passed (answer_at b x t).number)) [ passes q ↦ rw (p, q) w | fails q ↦ rw (p, q) w ]
  ]

pub followed_stands : (b : List ℕ) → Bytes b → (most : ℕ) (counts : List ℕ) (x : Play) (steps : List ℕ) → Standing b counts x → Standing b counts (followed_of b most counts x steps).play
unfolding followed_of
followed_stands b by most counts x [] w = w
followed_stands b by most counts x (t ∷ steps) w = elim (split (is_over most counts x)) [
  | passes o ↦ rw o w
  | fails o ↦ elim (split (is_there counts x.run t)) [
    | passes p ↦ rw (o, p) (followed_stands b by most counts x steps w)
    | fails p ↦ elim (split (eqb (tried_of b x t).stopped.number 0)) [
      | passes z ↦ rw (o, p, z) (followed_stands b by most counts (tried_of b x t).play steps (tried_stands b by counts x w t p))
      | fails z ↦ rw (o, p, z) (tried_stands b by counts x w t p)
    ]
  ]
]

-- a task without the accesses beyond its count
held_at : (counts : List ℕ) (xs : List TaskRun) (t : ℕ) → t < length counts → t < length xs → task_at (held_to counts xs) t ≡ held_by (task_at xs t) (get_or counts t 0)
unfolding held_to
held_at [] xs t h k = absurd (omega arith)
held_at (c ∷ cs) [] t h k = absurd (omega arith)
held_at (c ∷ cs) (x ∷ xs) zero h k = refl
held_at (c ∷ cs) (x ∷ xs) (suc t) h k = held_at cs xs t (omega arith) (omega arith)

held_past : (counts : List ℕ) (xs : List TaskRun) (t : ℕ) → length counts ≤ t → task_at (held_to counts xs) t ≡ task_at xs t
unfolding held_to
held_past [] xs t h = refl
held_past (c ∷ cs) [] t h = refl
held_past (c ∷ cs) (x ∷ xs) zero h = absurd (omega arith)
held_past (c ∷ cs) (x ∷ xs) (suc t) h = held_past cs xs t (omega arith)

pub within_shaped : (counts : List ℕ) (r : Run) → Shaped r → Shaped (run_within counts r)
within_shaped counts r s = held-length counts r.runs ∙ s

pub within_sound : (b counts : List ℕ) (x : Play) → Standing b counts x → sound_of (run_within counts x.run) (length b) ≡ true
within_sound b counts x w =
    let r = x.run in
    let f = sound_facts r (length b) w.small.playing.sound in
    sound_test (run_within counts r) (length b) (record {
      some_tasks = f.some_tasks;
      few_tasks = f.few_tasks;
      some_objects = f.some_objects;
      few_objects = f.few_objects;
      few_fields = f.few_fields;
      task = λ t h. elim (dec_lt t (length counts)) [
        | yes k ↦
            let q = held_at counts r.runs t k (omega (arith, f.few_tasks, w.small.playing.shaped)) in
            rw q (record { done = omega (arith, (f.task t h).done, w.held t k); place = (f.task t h).place; end = (f.task t h).end })
        | no k ↦ rw (held_past counts r.runs t (omega arith)) (f.task t h)
      ];
    })

-- no more accesses are left than before
left-within : (counts : List ℕ) (xs : List TaskRun) (n : ℕ) → n ≤ length xs → left_in (held_to counts xs) n ≤ left_in xs n
unfolding left_in
left-within counts xs zero h = omega arith
left-within counts xs (suc n) h = elim (dec_lt n (length counts)) [
  | yes k ↦ rw (held_at counts xs n k (omega arith)) (omega (arith, left-within counts xs n (omega arith)))
  | no k ↦ rw (held_past counts xs n (omega arith)) (omega (arith, left-within counts xs n (omega arith)))
]

pub within-left : (b counts : List ℕ) (x : Play) → Standing b counts x → left_over (run_within counts x.run) ≤ left_over x.run
within-left b counts x w = left-within counts x.run.runs x.run.tasks (omega (arith, (sound_facts _ _ w.small.playing.sound).few_tasks, w.small.playing.shaped))
