-- Two plays of a box's recording whose steps are all taken: where each task has done the same number of accesses they are the same play.
use Rattle.std.specs.Prelude.{Ok, List, ◌≡◌, ℕ, length}
use Rattle.std.proofs.Common.{sym, ap, ◌∙◌}
use Rattle.pending.specs.Run.{done_of}
use Rattle.reader.specs.Parse.{Parsed, parse}
use Rattle.replayer.specs.OpenOf.{opened_run}
use Rattle.scheduler.specs.Finish.{Play}
use Rattle.scheduler.specs.Laws.Schedule.{AllTaken}
use Rattle.scheduler.specs.Schedule.{played_by}
use Rattle.fidelity.specs.Bench.{Bench}
use Rattle.fidelity.specs.Box.{Opening, Asked, recording_of, recording_by, cells_by}
use Rattle.fidelity.proofs.Laws.LowestFirst.{bench-after, box-counts}
use Rattle.fidelity.proofs.Laws.Paused.{paused, same-tally}
use Rattle.fidelity.proofs.Laws.Theorem.{run-done}
use Rattle.fidelity.specs.Paused.{AtOnePlace}
use Rattle.fidelity.specs.Statement.{Accepted, done}

module _ (o : Opening) (asked : List Asked) (outs : ℕ → List ℕ) (lent : List ℕ) (a : Accepted o asked outs lent) (each : length lent ≡ cells_by o)
    (p : Parsed) (e : parse (recording_of o asked outs) ≡ Ok p) (same : p.recording ≡ recording_by o asked) where
  abbrev b : List ℕ
  b = recording_of o asked outs

  abbrev start : Play
  start = record { run = opened_run p; memory = p.recording.values; steps = 0 }

  played_done : (steps : List ℕ) → AllTaken b start steps → (t : ℕ) → done_of (played_by b start steps).run.runs t ≡ done o asked outs lent steps t
  played_done steps w t = ap (λ (x : Bench). done_of x.run.runs t) (bench-after o asked outs lent a each p e same steps w) ∙ run-done o asked outs lent a steps t

  pub one_place : (steps others : List ℕ) → AllTaken b start steps → AllTaken b start others
      → ((t : ℕ) → done_of (played_by b start steps).run.runs t ≡ done_of (played_by b start others).run.runs t) → played_by b start steps ≡ played_by b start others
  one_place steps others w v d =
      let x = bench-after o asked outs lent a each p e same steps w in
      let y = bench-after o asked outs lent a each p e same others v in
      let k : AtOnePlace o asked outs lent lent steps others = λ t. sym (played_done steps w t) ∙ d t ∙ played_done others v t in
      let s = (paused o asked outs lent lent a a).at_one_place steps others k in
      let run = ap (λ (z : Bench). z.run) x ∙ s.run ∙ sym (ap (λ (z : Bench). z.run) y) in
      let memory = ap (λ (z : Bench). z.memory) x ∙ s.memory ∙ sym (ap (λ (z : Bench). z.memory) y) in
      let count = box-counts o asked outs lent a each p e same steps w ∙ same-tally o asked outs lent lent a a steps others k ∙ sym (box-counts o asked outs lent a each p e same others v) in
      λ i. record { run = run i; memory = memory i; steps = count i }
