-- How long the texts are: at most 28 bytes for each step of the list, and 22,703 for how it ended.
use Rattle.std.specs.Prelude.{◌≡◌, ℕ, suc, ◌+◌, ◌*◌, ◌≤◌, ◌<◌, eqb, length, get_or}
use Rattle.std.proofs.Math.Bool.{true}
use mathlib.Core.List.{List, [], ◌∷◌}
use native.Mathlib.Omega.{arith}
use Rattle.std.proofs.Common.{eqb-true}
use Rattle.std.proofs.Math.ListN.{length-append}
use Rattle.codec.specs.Field.{Bytes}
use Rattle.codec.specs.Laws.Cell.{cells_few}
use Rattle.codec.specs.Laws.Decide.{passes, fails, split}
use Rattle.codec.specs.Number.{no_task, finished, held}
use Rattle.pending.proofs.Laws.Sound.{sound_facts}
use Rattle.replayer.specs.ReadyOf.{ready_of}
use Rattle.replay_lines.proofs.Laws.Block.{turned_few, block_few}
use Rattle.replay_lines.proofs.Laws.LinesBound.{end-few, memory-few, refusal_few}
use Rattle.scheduler.specs.Finish.{Play, takes_step, finished_of}
use Rattle.transcript.specs.Laws.ToldBound.{Small}
use Rattle.transcript.proofs.Laws.ToldBound.{stays}
use Rattle.waits.proofs.Laws.Differ.{differ_short}
use Rattle.waits.proofs.Laws.Waits.{waits_short}
use Rattle.waits.specs.Waits.{waits_most}
use Rattle.pause.specs.Ending.{ending_of, told_of, waits_at, why_of}
use Rattle.follow.specs.Follow.{Followed, is_passed, answer_at, tried_of, is_over, followed_of}
use Rattle.follow.specs.Laws.Follow.{tried_steps}
use Rattle.pause.specs.Laws.Keeps.{Standing, tried_stands, followed_stands}
use Rattle.pause.specs.Text.{longest_text}
use Rattle.follow.specs.Within.{is_there, run_within}

passed_small : (n : ℕ) → is_passed n ≡ true → n < 100
passed_small n p = elim (split (eqb n no_task)) [
  | passes a ↦ omega (arith, eqb-true n no_task a)
  | fails a ↦ elim (split (eqb n finished)) [
    | passes c ↦ omega (arith, eqb-true n finished c)
    | fails c ↦ omega (arith, eqb-true n held (rw (a, c) at p))
  ]
]

module _ (b : List ℕ) (by : Bytes b) where
  tried_few : (x : Play) (t : ℕ) → Small b x → t < 4294967296 → length (tried_of b x t).text ≤ 28
  unfolding tried_of
  tried_few x t s h = elim (split (takes_step b x t)) [
    | passes p ↦ rw p (stays b by x t s (eqb-true _ _ p)).line
    | fails p ↦ elim (split (is_passed (answer_at b x t).number)) [
      | passes q ↦ rw (p, q) (omega (arith, turned_few t (answer_at b x t).number (omega arith) (passed_small _ q)))
      | fails q ↦ rw (p, q) (omega arith)
    ]
  ]

  -- the lines, and the steps taken
  pub record Few (x : Play) (n : ℕ) (f : Followed) : Type 0 where
    pub lines : length f.text ≤ 28 * n
    pub steps : f.play.steps ≤ x.steps + n

  pub followed_few : (most : ℕ) (counts : List ℕ) (x : Play) (steps : List ℕ) → Standing b counts x → ((i : ℕ) → get_or steps i 0 < 4294967296) → Few x (length steps) (followed_of b most counts x steps)
  unfolding followed_of
  followed_few most counts x [] w g = record { lines = omega arith; steps = omega arith }
  followed_few most counts x (t ∷ steps) w g = elim (split (is_over most counts x)) [
    | passes o ↦ rw o (record { lines = omega arith; steps = omega arith })
    | fails o ↦ elim (split (is_there counts x.run t)) [
      | passes p ↦
          let i = followed_few most counts x steps w (λ k. g (suc k)) in
          rw (o, p) (record { lines = omega (arith, i.lines); steps = omega (arith, i.steps) })
      | fails p ↦
          let l = tried_few x t w.small (g 0) in
          let m = tried_steps b x t in
          elim (split (eqb (tried_of b x t).stopped.number 0)) [
            | passes z ↦
                let i = followed_few most counts (tried_of b x t).play steps (tried_stands b by counts x w t p) (λ k. g (suc k)) in
                rw (o, p, z) (record { lines = rw length-append (omega (arith, l, i.lines)); steps = omega (arith, m, i.steps) })
            | fails z ↦ rw (o, p, z) (record { lines = omega (arith, l); steps = omega (arith, m) })
          ]
    ]
  ]

  ending_few : (y : Play) → Small b y → y.steps < 100000 → length (ending_of b y) ≤ 22703
  unfolding ending_of
  ending_few y s h =
      let f = sound_facts _ _ s.playing.sound in
      let v = memory-few y.memory (λ i. omega (arith, s.values i)) in
      elim (split (finished_of y.run)) [
        | passes p ↦ rw (p, length-append) (omega (arith, end-few true y.steps h, v, cells_few _ _ f.few_fields f.few_objects, s.playing.entries))
        | fails p ↦ rw p (block_few y.steps y.run (ready_of y.run b).word y.memory h f.few_tasks (λ t k. omega (arith, (f.task t k).done, s.counts t k)) (omega (arith, cells_few _ _ f.few_fields f.few_objects, s.playing.entries)) (λ i. omega (arith, s.values i)))
      ]

  module _ (most : ℕ) (counts : List ℕ) (x : Play) (steps : List ℕ) (w : Standing b counts x) (none : x.steps ≡ 0) (n : length steps ≤ 32768) (g : (i : ℕ) → get_or steps i 0 < 4294967296) where
    pub told-few : length (told_of b (followed_of b most counts x steps)) ≤ longest_text
    unfolding told_of
    told-few =
        let f = followed_of b most counts x steps in
        let k = followed_few most counts x steps w g in
        elim (split (eqb f.stopped.number 0)) [
          | passes p ↦ rw (p, length-append) (omega (arith, k.lines, ending_few f.play (followed_stands b by most counts x steps w).small (omega (arith, k.steps))))
          | fails p ↦ rw (p, length-append) (omega (arith, k.lines, refusal_few f.stopped.number f.stopped.offset))
        ]

    pub lines-few : length (followed_of b most counts x steps).text ≤ longest_text
    lines-few = omega (arith, (followed_few most counts x steps w g).lines)

    pub why_few : length (why_of b counts (followed_of b most counts x steps)) ≤ waits_most
    unfolding why_of waits_at
    why_few =
        let f = followed_of b most counts x steps in
        let r = run_within counts f.play.run in
        let s = sound_facts _ _ (followed_stands b by most counts x steps w).small.playing.sound in
        elim (split (eqb f.stopped.number 0)) [
          | fails p ↦ rw p (omega (arith, differ_short f.play.run.fields b f.play.memory f.stopped.offset))
          | passes p ↦ elim (split (eqb (ready_of r b).word 0)) [ passes q ↦ rw (p, q) (omega (arith, waits_short b r r.tasks, s.few_tasks)) | fails q ↦ rw (p, q) (omega arith) ]
        ]
