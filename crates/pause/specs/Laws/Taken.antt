-- A list of steps followed is a play of steps that are all taken; it is stopped only by a step whose number is none of 0, 5, 15 and 16.
use Rattle.std.specs.Prelude.{◌≡◌, true, false, List, [], ◌∷◌, ℕ, ◌+◌, length}
use Rattle.std.proofs.Math.Path.{refl}
use Rattle.std.proofs.Common.{sym, ap, ◌∙◌, eqb-true}
use Rattle.codec.specs.Laws.Decide.{passes, fails, split}
use Rattle.entries.specs.Reading.{numbered}
use Rattle.replay_lines.specs.Block.{turned_line}
use Rattle.replay_lines.specs.Lines.{line_of}
use Rattle.scheduler.specs.Finish.{Play, takes_step, stepped_by}
use Rattle.scheduler.specs.Laws.Schedule.{AllTaken, StepsTo}
use Rattle.scheduler.specs.Schedule.{played_by}
use Rattle.transcript.proofs.Laws.Told.{taken-steps}
use Rattle.follow.specs.Follow.{Followed, resting, in_front, is_passed, answer_at, tried_of, is_over, followed_of}
use Rattle.follow.specs.Within.{is_there}

no_steps : (b : List ℕ) (x : Play) → StepsTo b x x
unfolding AllTaken played_by
no_steps b x = record { steps = []; all = tt; leads = refl }

one_more_lem : (b : List ℕ) (x y : Play) (t : ℕ) → takes_step b x t ≡ true → StepsTo b (stepped_by b x t) y → StepsTo b x y
unfolding AllTaken played_by
one_more_lem b x y t k s = record { steps = t ∷ s.steps; all = (eqb-true _ _ k, s.all); leads = rw k s.leads }

-- the number that stopped it is that of a task's step where it stopped
pub record StoppedBy (b : List ℕ) (f : Followed) : Type 0 where
  pub task : ℕ
  pub number : (answer_at b f.play task).number ≡ f.stopped.number
  pub kept : is_passed f.stopped.number ≡ false

module _ (b : List ℕ) (most : ℕ) (counts : List ℕ) where
  followed_none : (x : Play) → followed_of b most counts x [] ≡ resting x
  unfolding followed_of
  followed_none x = refl

  -- what becomes of the first step
  data FirstStep (x : Play) (t : ℕ) (steps : List ℕ) : Type 0 where
    over : followed_of b most counts x (t ∷ steps) ≡ resting x → FirstStep x t steps
    passed_over : followed_of b most counts x (t ∷ steps) ≡ followed_of b most counts x steps → FirstStep x t steps
    taken : takes_step b x t ≡ true → followed_of b most counts x (t ∷ steps) ≡ in_front (line_of t (answer_at b x t)) (followed_of b most counts (stepped_by b x t) steps) → FirstStep x t steps
    passed : followed_of b most counts x (t ∷ steps) ≡ in_front (turned_line t (answer_at b x t).number) (followed_of b most counts x steps) → FirstStep x t steps
    stopping : is_passed (answer_at b x t).number ≡ false
        → followed_of b most counts x (t ∷ steps) ≡ record { text = []; play = x; stopped = numbered (answer_at b x t).number (answer_at b x t).offset } → FirstStep x t steps

  first_step : (x : Play) (t : ℕ) (steps : List ℕ) → FirstStep x t steps
  unfolding followed_of tried_of
  first_step x t steps = elim (split (is_over most counts x)) [
    | passes o ↦ over (rw o)
    | fails o ↦ elim (split (is_there counts x.run t)) [
      | passes h ↦ passed_over (rw (o, h))
      | fails h ↦ elim (split (takes_step b x t)) [
        | passes k ↦ taken k (rw (o, h, k))
        | fails k ↦ elim (split (is_passed (answer_at b x t).number)) [
          | passes q ↦ passed (rw (o, h, k, q))
          | fails q ↦ stopping q (rw (o, h, k, q, k))
        ]
      ]
    ]
  ]

  pub followed_taken : (x : Play) (steps : List ℕ) → StepsTo b x (followed_of b most counts x steps).play
  followed_taken x [] = rw followed_none (no_steps b x)
  followed_taken x (t ∷ steps) = elim (first_step x t steps) [
    | over e ↦ rw e (no_steps b x)
    | passed_over e ↦ rw e (followed_taken x steps)
    | taken k e ↦ rw e (one_more_lem b x _ t k (followed_taken (stepped_by b x t) steps))
    | passed e ↦ rw e (followed_taken x steps)
    | stopping q e ↦ rw e (no_steps b x)
  ]

  -- each of them is counted
  pub followed_count : (x : Play) (steps : List ℕ) → (followed_of b most counts x steps).play.steps ≡ x.steps + length (followed_taken x steps).steps
  followed_count x steps =
      let s = followed_taken x steps in
      ap (λ (y : Play). y.steps) (sym s.leads) ∙ taken-steps b x s.steps s.all

  pub followed_stops : (x : Play) (steps : List ℕ) → ((followed_of b most counts x steps).stopped.number ≡ 0 → ⊥) → StoppedBy b (followed_of b most counts x steps)
  followed_stops x [] n = absurd (n (rw followed_none))
  followed_stops x (t ∷ steps) n = elim (first_step x t steps) [
    | over e ↦ absurd (n (rw e))
    | passed_over e ↦ rw e (followed_stops x steps (rw e at n))
    | taken k e ↦ rw e (let s = followed_stops (stepped_by b x t) steps (rw e at n) in record { task = s.task; number = s.number; kept = s.kept })
    | passed e ↦ rw e (let s = followed_stops x steps (rw e at n) in record { task = s.task; number = s.number; kept = s.kept })
    | stopping q e ↦ rw e (record { task = t; number = refl; kept = q })
  ]
