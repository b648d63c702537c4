-- A box's recording played with always the lowest ready task: every step is taken, as many as accesses were recorded, and then no task has
-- any left.
use Rattle.std.specs.Prelude.{Ok, true, false, List, [], ◌∷◌, ◌≡◌, refl, ℕ, ◌+◌, eqb, length}
use Rattle.std.proofs.Common.{inl, inr, sym, ap, subst, ◌∙◌, arith, eq-eqb, ne_eqb}
use Rattle.codec.specs.Number.{differs}
use Rattle.entries.specs.Recording.{Recording}
use Rattle.reader.specs.Parse.{Parsed, parse}
use Rattle.replayer.proofs.Laws.OpenOf.{opened-stands, open_accepts}
use Rattle.replayer.specs.OpenOf.{opened_run, open_of}
use Rattle.replayer.specs.ReadyOf.{ready_of}
use Rattle.replayer.specs.StepOf.{step_of}
use Rattle.scheduler.specs.Finish.{Play, word_at, task_next, takes_step, stepped_by, finish_of, finished_of}
use Rattle.scheduler.specs.Laws.Finish.{Playing, none-ready, stopped}
use Rattle.scheduler.proofs.Laws.Finish.{finish_ends}
use Rattle.scheduler.specs.Laws.Schedule.{AllTaken}
use Rattle.scheduler.proofs.Laws.Schedule.{schedule_finish, finish_steps, schedule_taken, schedule_settled}
use Rattle.scheduler.specs.Schedule.{schedule_of, settled_of, played_by}
use Rattle.fidelity.specs.Bench.{Bench, bench_of, answer_of, stepped_all, takes, tally}
use Rattle.fidelity.specs.Box.{Opening, Asked, recorded, recording_of, recording_by, cells_by}
use Rattle.fidelity.proofs.Laws.BoxMatches.{cells_each}
use Rattle.fidelity.proofs.Laws.Theorem.{demand-3, run-finished}
use Rattle.fidelity.specs.Statement.{Accepted, RefusedBy, after}
use Rattle.codec.specs.Cell.{cells_of}

-- a play of taken steps is the bench after the same steps, and each is counted
play-bench : (b : List ℕ) (x : Play) (steps : List ℕ) → AllTaken b x steps
    → record { run = (played_by b x steps).run; memory = (played_by b x steps).memory } ≡ stepped_all b (record { run = x.run; memory = x.memory }) steps
unfolding played_by stepped_all AllTaken
play-bench b x [] w = refl
play-bench b x (t ∷ steps) w = rw (eq-eqb _ _ w.0) (play-bench b (stepped_by b x t) steps w.1)

taken-tally : (b : List ℕ) (x : Play) (steps : List ℕ) → AllTaken b x steps → tally b (record { run = x.run; memory = x.memory }) steps ≡ length steps
unfolding AllTaken tally
taken-tally b x [] w = refl
taken-tally b x (t ∷ steps) w = rw (eq-eqb _ _ w.0) (omega (arith, taken-tally b (stepped_by b x t) steps w.1))

play-tally : (b : List ℕ) (x : Play) (steps : List ℕ) → AllTaken b x steps → (played_by b x steps).steps ≡ x.steps + tally b (record { run = x.run; memory = x.memory }) steps
unfolding played_by AllTaken tally
play-tally b x [] w = omega arith
play-tally b x (t ∷ steps) w = rw (eq-eqb _ _ w.0) (omega (arith, play-tally b (stepped_by b x t) steps w.1))

-- 19 is none of the numbers of a box's recording
not-differs : (n : ℕ) → n ≡ differs → (eqb n 0 ≡ false → RefusedBy n) → ⊥
not-differs n e r = go (r (ne_eqb n 0 (λ z. omega arith)))
  where
    go : RefusedBy n → ⊥
    go (inl p) = omega arith
    go (inr (inl p)) = omega arith
    go (inr (inr p)) = omega arith

module _ (o : Opening) (asked : List Asked) (outs : ℕ → List ℕ) (lent : List ℕ) (a : Accepted o asked outs lent) (each : length lent ≡ cells_by o)
    (p : Parsed) (e : parse (recording_of o asked outs) ≡ Ok p) (same : p.recording ≡ recording_by o asked) where
  abbrev b : List ℕ
  b = recording_of o asked outs

  abbrev start : Play
  start = record { run = opened_run p; memory = p.recording.values; steps = 0 }

  abbrev steps : List ℕ
  steps = schedule_of b (opened_run p)

  box_playing : Playing b start
  box_playing = let s = opened-stands b p e in record { sound = s.sound; shaped = s.shaped; entries = s.values }

  opens : open_of b lent ≡ record { answer = record { number = 0; offset = 0; run = opened_run p }; memory = p.recording.values }
  opens = open_accepts b lent p e (each ∙ sym (cells_each o a.opened) ∙ sym (ap (λ (r : Recording). cells_of r.fields (length r.owners)) same))

  pub box-bench : bench_of b lent ≡ record { run = opened_run p; memory = p.recording.values }
  box-bench = rw opens

  -- the bench after taken steps
  pub bench-after : (ts : List ℕ) → AllTaken b start ts → record { run = (played_by b start ts).run; memory = (played_by b start ts).memory } ≡ after o asked outs lent ts
  bench-after ts w = play-bench b start ts w ∙ ap (λ (x : Bench). stepped_all b x ts) (sym box-bench)

  -- each of them is counted
  pub box-counts : (ts : List ℕ) → AllTaken b start ts → (played_by b start ts).steps ≡ tally b (bench_of b lent) ts
  box-counts ts w = rw box-bench (omega (arith, play-tally b start ts w))

  -- a step after them that is not taken gives 5, 15 or 16
  pub box-refused : (ts : List ℕ) → AllTaken b start ts → (t : ℕ) → takes_step b (played_by b start ts) t ≡ false
      → RefusedBy (step_of (played_by b start ts).run b (played_by b start ts).memory t).answer.number
  box-refused ts w t =
      subst (λ (x : Bench). takes b x t ≡ false → RefusedBy (answer_of b x t).number) (sym (bench-after ts w)) ((demand-3 o asked outs lent a).refused_by ts t)

  -- no 19 stops the play, so no task is ready at its end
  box_stops : word_at b (finish_of b start) ≡ 0
  box_stops = elim (finish_ends b start box_playing) [
    | none-ready z ↦ z
    | stopped op next d ↦
        let s = finish_steps b start box_playing in
        absurd (not-differs _ d.number (rw s.leads at (box-refused s.steps s.all (task_next b (finish_of b start)))))
  ]

  pub box-taken : AllTaken b start steps
  box-taken = schedule_taken b start box_playing box_stops

  pub box_settled : (played_by b start steps).run ≡ settled_of b (opened_run p)
  box_settled = schedule_settled b start box_playing box-taken

  pub box-ends : record { run = (played_by b start steps).run; memory = (played_by b start steps).memory } ≡ after o asked outs lent steps
  box-ends = bench-after steps box-taken

  all-taken : tally b (bench_of b lent) steps ≡ length steps
  all-taken = rw box-bench (taken-tally b start steps box-taken)

  ready-none : (ready_of (played_by b start steps).run b).word ≡ 0
  ready-none = rw (schedule_finish b start box_playing) box_stops

  pub box-all-done : tally b (bench_of b lent) steps ≡ length (recorded o asked)
  box-all-done = ((demand-3 o asked outs lent a).stops_at_end steps).0 (ap (λ (x : Bench). (ready_of x.run b).word) (sym box-ends) ∙ ready-none)

  pub box-steps : length steps ≡ length (recorded o asked)
  box-steps = sym all-taken ∙ box-all-done

  pub box-finished : finished_of (played_by b start steps).run ≡ true
  box-finished = ap (λ (x : Bench). finished_of x.run) box-ends ∙ run-finished o asked outs lent a steps box-all-done
