-- For every text that `record` makes a recording of, no step stops `replay`, and where it pauses depends only on what each task has done.
use Rattle.std.specs.Prelude.{Ok, true, List, ◌++◌, ◌≡◌, refl, ℕ, length, replicate}
use Rattle.std.proofs.Common.{inl, inr, sym, ap, ◌∙◌, ne_eqb}
use Rattle.std.proofs.Math.Decide.{ℕ_discrete}
use Rattle.std.proofs.lemmas.List.{length-replicate}
use Rattle.codec.specs.Laws.Decide.{never}
use Rattle.fidelity.specs.Box.{Opening, Asked, last_box, recording_of, recording_by, cells_by}
use Rattle.fidelity.specs.Laws.BoxMatches.{parsed_by}
use Rattle.fidelity.proofs.Laws.BoxMatches.{recording-parsed}
use Rattle.fidelity.proofs.Laws.LowestFirst.{box-refused}
use Rattle.fidelity.proofs.Laws.OnePlace.{one_place}
use Rattle.fidelity.specs.Statement.{Accepted, RefusedBy}
use Rattle.pause.specs.Ending.{ending_of, told_of}
use Rattle.follow.specs.Follow.{is_passed}
use Rattle.pause.specs.Laws.Taken.{followed_taken, followed_stops}
use Rattle.pause.specs.Request.{Request, steps_of, has_counts}
use Rattle.pause.specs.Text.{start_of, followed_by, answer_of}
use Rattle.pending.specs.Run.{done_of}
use Rattle.reader.specs.Parse.{Parsed, parse}
use Rattle.replayer.specs.OpenOf.{opened_run}
use Rattle.scheduler.specs.Laws.Schedule.{StepsTo}
use Rattle.script.specs.RecordOf.{record_of}
use Rattle.programs.specs.Paused.{Pauses}
use Rattle.programs.specs.WholeRecording.{outs_of}
use Rattle.programs.specs.Laws.WholeText.{whole-text}

-- 5, 15 and 16 are passed
refused-passed : (n : ℕ) → RefusedBy n → is_passed n ≡ true
refused-passed n (inl p) = rw p
refused-passed n (inr (inl p)) = rw p
refused-passed n (inr (inr p)) = rw p

module _ (o : Opening) (asked : List Asked) (outs : ℕ → List ℕ) (lent : List ℕ) (a : Accepted o asked outs lent) (each : length lent ≡ cells_by o)
    (p : Parsed) (e : parse (recording_of o asked outs) ≡ Ok p) (same : p.recording ≡ recording_by o asked) where
  abbrev b : List ℕ
  b = recording_of o asked outs

  taken : (q : Request) → StepsTo b (start_of p) (followed_by q b p).play
  taken q = followed_taken b q.most q.counts (start_of p) (steps_of q b (opened_run p))

  -- a step that is not taken gives 5, 15 or 16, and these are passed
  none_stops : (q : Request) → ((followed_by q b p).stopped.number ≡ 0 → ⊥) → ⊥
  none_stops q n =
      let s = taken q in
      let k = followed_stops b q.most q.counts (start_of p) (steps_of q b (opened_run p)) n in
      let r = rw (s.leads, k.number) at (box-refused o asked outs lent a each p e same s.steps s.all k.task) in
      never _ (refused-passed _ (r (ne_eqb _ 0 n))) k.kept

  goes_on_lem : (q : Request) → (followed_by q b p).stopped.number ≡ 0
  goes_on_lem q = elim (ℕ_discrete (followed_by q b p).stopped.number 0) [
    | yes z ↦ z
    | no n ↦ absurd (none_stops q n)
  ]

  ends_alike : (q s : Request) → ((t : ℕ) → done_of (followed_by q b p).play.run.runs t ≡ done_of (followed_by s b p).play.run.runs t)
      → ending_of b (followed_by q b p).play ≡ ending_of b (followed_by s b p).play
  ends_alike q s d =
      let x = taken q in
      let y = taken s in
      ap (ending_of b) (sym x.leads ∙ one_place o asked outs lent a each p e same x.steps y.steps x.all y.all (rw (x.leads, y.leads) d) ∙ y.leads)

  writes : (q : Request) → has_counts q.counts p.recording.tasks ≡ true → (answer_of q b (Ok p)).text ≡ (followed_by q b p).text ++ ending_of b (followed_by q b p).play
  unfolding answer_of told_of
  writes q k = rw (k, goes_on_lem q)

pub pauses : (text : List ℕ) → (record_of text).line ≡ 0 → Pauses text
pauses text z =
    let w = whole-text text z in
    let o = w.opening in
    let outs = outs_of (last_box o w.asked) in
    let lent = replicate {A = ℕ} (cells_by o) 0 in
    let each : length lent ≡ cells_by o = length-replicate {A = ℕ} (cells_by o) 0 in
    let a = w.accepted lent each in
    let p = parsed_by o w.asked in
    let e = recording-parsed o a.opened w.asked outs a.packed in
    record {
      parsed = p;
      reads = rw w.is e;
      never_stopped = rw w.is (goes_on_lem o w.asked outs lent a each p e refl);
      same_ending = rw w.is (ends_alike o w.asked outs lent a each p e refl);
      text_is = rw w.is (writes o w.asked outs lent a each p e refl);
    }
