-- For every text that `record` makes a recording of, `replay` shows each of its accesses and the memory it leaves.
use Rattle.std.specs.Prelude.{Ok, Bool, true, false, ◌&&◌, ◌≡◌, refl, ℕ, zero, suc, ◌+◌, eqb, length, replicate}
use mathlib.Core.List.{List, [], ◌∷◌, ◌++◌, append-nil}
use Rattle.std.proofs.Common.{sym, ap, ◌∙◌, arith, eq-eqb, ne_eqb}
use Rattle.std.proofs.Math.Path.{subst, fun_ext}
use Rattle.std.proofs.Math.Decide.{ℕ_discrete}
use Rattle.std.proofs.lemmas.List.{length-replicate}
use Rattle.codec.specs.Cell.{object_at, field_at}
use Rattle.codec.specs.Kind.{access_kind, stands_under}
use Rattle.codec.specs.Laws.Kind.{kind-reads, kind-stands, stands-bare}
use Rattle.history.specs.Entry.{Act, read, write, acquire}
use Rattle.history.proofs.Laws.OneMore.{one_more-own, one_more-other}
use Rattle.history.specs.Replay.{one_more}
use Rattle.codec.specs.Bit.{bit}
use Rattle.reader.specs.Parse.{Parsed, parse}
use Rattle.entries.specs.declared.Checked.{Checked}
use Rattle.replayer.specs.declared.Stepped.{Stepped}
use Rattle.scheduler.specs.Finish.{stepped_by, Play}
use Rattle.replayer.specs.OpenOf.{opened_run}
use Rattle.scheduler.specs.Schedule.{schedule_of, played_by}
use Rattle.scheduler.specs.Laws.Schedule.{AllTaken as AllTakenBy}
use Rattle.replayer.specs.StepOf.{step_of}
use Rattle.fidelity.specs.Bench.{Bench, bench_of, stepped, stepped_all, takes, tally_of, AllTaken}
use Rattle.fidelity.specs.Box.{Opening, Asked, last_box, recorded, recording_of, recording_by, cells_by}
use Rattle.fidelity.proofs.Laws.LowestFirst.{box-bench, box-taken, box-ends, box-all-done, box-steps, box-finished}
use Rattle.fidelity.specs.Statement.{Accepted, Shows, Faithful, after, done}
use Rattle.fidelity.proofs.Laws.Theorem.{demand-3}
use Rattle.script.specs.RecordOf.{record_of}
use Rattle.replay_lines.proofs.Laws.Lines.{object-field, object-bare}
use Rattle.replay_lines.specs.Lines.{object_of, line_of}
use Rattle.text.specs.Decimal.{field_of}
use Rattle.transcript.proofs.Laws.Text.{text_of_steps}
use Rattle.transcript.proofs.Laws.Told.{taken-stop, taken-steps}
use Rattle.transcript.specs.Told.{lines_of}
use Rattle.programs.specs.Both.{cell_text, access_line, Lines, none, more, Shown}
use Rattle.programs.specs.WholeRecording.{outs_of}
use Rattle.programs.specs.Laws.WholeText.{whole-text}

-- the object, and the field if objects have fields
cell-shows : (fields cell : ℕ) (stores : Bool) → object_of (access_kind fields stores) (object_at fields cell) (field_at fields cell) ≡ cell_text fields cell
unfolding cell_text stands_under
cell-shows zero cell stores =
    object-bare (access_kind 0 stores) (object_at 0 cell) (field_at 0 cell) (stands-bare _ (kind-stands 0 stores)) ∙ sym (append-nil (field_of (object_at 0 cell) 32))
cell-shows (suc n) cell stores =
    rw (ne_eqb (suc n) 0 (λ z. omega arith)) (object-field (access_kind (suc n) stores) (object_at (suc n) cell) (field_at (suc n) cell) (kind-stands (suc n) stores))

-- the line of a step that shows an act
line-shows : (fields t k : ℕ) (s : Stepped) (a : Act) → s.access ≡ k → Shows fields s a → line_of t s ≡ access_line fields t k a
unfolding line_of access_line
line-shows fields t k s (read cell value) e (kind, o, f, v) = rw (e, kind, o, f, v, kind-reads fields false, cell-shows fields cell false)
line-shows fields t k s (write cell value) e (kind, o, f, v) = rw (e, kind, o, f, v, kind-reads fields true, cell-shows fields cell true)
line-shows fields t k s (acquire number) e w = absurd w

after_more : (b : List ℕ) (x : Bench) (steps : List ℕ) (t : ℕ) → stepped_all b x (steps ++ (t ∷ [])) ≡ stepped b (stepped_all b x steps) t
unfolding stepped_all
after_more b x [] t = refl
after_more b x (u ∷ steps) t = after_more b (stepped b x u) steps t

tally-more : (u : ℕ) (b : List ℕ) (x : Bench) (steps : List ℕ) (t : ℕ)
    → tally_of u b x (steps ++ (t ∷ [])) ≡ tally_of u b x steps + bit (takes b (stepped_all b x steps) t && eqb t u)
unfolding tally_of stepped_all
tally-more u b x [] t = omega arith
tally-more u b x (s ∷ steps) t = rw (tally-more u b (stepped b x s) steps t) (omega arith)

done_more : (b : List ℕ) (x : Bench) (steps : List ℕ) (t : ℕ) → takes b (stepped_all b x steps) t ≡ true
    → (λ u. tally_of u b x (steps ++ (t ∷ []))) ≡ one_more t (λ u. tally_of u b x steps)
done_more b x steps t y = fun_ext (λ u. tally-more u b x steps t ∙ elim (ℕ_discrete u t) [
  | yes e ↦ rw (y, e, eq-eqb t t refl, one_more-own) (omega arith)
  | no e ↦ rw (y, ne_eqb t u (λ q. e (sym q)), one_more-other t (λ v. tally_of v b x steps) u e) (omega arith)
])

bench-taken : (b : List ℕ) (x : Play) (steps : List ℕ) → AllTakenBy b x steps → AllTaken b (record { run = x.run; memory = x.memory }) steps
unfolding AllTakenBy AllTaken
bench-taken b x [] w = tt
bench-taken b x (t ∷ steps) w = (eq-eqb _ _ w.0, bench-taken b (stepped_by b x t) steps w.1)

-- the lines of taken steps, after any other steps
module _ (o : Opening) (asked : List Asked) (outs : ℕ → List ℕ) (lent : List ℕ) (f : Faithful o asked outs lent) where
  abbrev bytes : List ℕ
  bytes = recording_of o asked outs

  lines-all : (before steps : List ℕ) → AllTaken bytes (after o asked outs lent before) steps
      → Lines o.fields (recorded o asked) (done o asked outs lent before) steps (lines_of bytes (after o asked outs lent before).run (after o asked outs lent before).memory steps)
  unfolding AllTaken lines_of
  lines-all before [] w = none
  lines-all before (t ∷ steps) w =
      let x = after o asked outs lent before in
      let (e, access, number, shows) = f.answers_recorded before t w.0 in
      let a = after_more bytes (bench_of bytes lent) before t in
      let rest = lines-all (before ++ (t ∷ [])) steps (rw a w.1) in
      rw (w.0, line-shows o.fields t (suc (done o asked outs lent before t)) (step_of x.run bytes x.memory t).answer e.act number shows)
      (more access (rw (a, done_more bytes (bench_of bytes lent) before t w.0) at rest))

-- a recording that the replay opens, played with always the lowest ready task
module _ (o : Opening) (asked : List Asked) (outs : ℕ → List ℕ) (lent : List ℕ) (a : Accepted o asked outs lent) (each : length lent ≡ cells_by o)
    (p : Parsed) (e : parse (recording_of o asked outs) ≡ Ok p) (same : p.recording ≡ recording_by o asked) where
  abbrev b : List ℕ
  b = recording_of o asked outs

  abbrev start : Play
  start = record { run = opened_run p; memory = p.recording.values; steps = 0 }

  abbrev steps : List ℕ
  steps = schedule_of b (opened_run p)

  pub shown-lines : Lines o.fields (recorded o asked) (λ t. 0) steps (lines_of b (opened_run p) p.recording.values steps)
  unfolding tally_of stepped_all
  shown-lines =
      subst (λ (x : Bench). Lines o.fields (recorded o asked) (λ t. 0) steps (lines_of b x.run x.memory steps)) (box-bench o asked outs lent a each p e same)
      (lines-all o asked outs lent (demand-3 o asked outs lent a) [] steps (rw (box-bench o asked outs lent a each p e same) (bench-taken b start steps (box-taken o asked outs lent a each p e same))))

  pub shown-memory : (played_by b start steps).memory ≡ (last_box o asked).memory
  shown-memory =
      ap (λ (x : Bench). x.memory) (box-ends o asked outs lent a each p e same)
      ∙ (demand-3 o asked outs lent a).end_memory steps (box-all-done o asked outs lent a each p e same)

pub both : (text : List ℕ) → (record_of text).line ≡ 0 → Shown text
both text z =
    let w = whole-text text z in
    let o = w.opening in
    let outs = outs_of (last_box o w.asked) in
    let lent = replicate {A = ℕ} (cells_by o) 0 in
    let each : length lent ≡ cells_by o = length-replicate {A = ℕ} (cells_by o) 0 in
    let a = w.accepted lent each in
    let (p, e, same) = (demand-3 o w.asked outs lent a).reads_back in
    let n = box-steps o w.asked outs lent a each p e same in
    let x : Play = record { run = opened_run p; memory = p.recording.values; steps = 0 } in
    let k = box-taken o w.asked outs lent a each p e same in
    let t = text_of_steps (recording_of o w.asked outs) p (rw w.is at w.short) e (ap (λ (c : Checked). c.number) (taken-stop (recording_of o w.asked outs) x _ k)) in
    let d : (played_by (recording_of o w.asked outs) x (schedule_of (recording_of o w.asked outs) (opened_run p))).steps ≡ length (recorded o w.asked) = omega (arith, taken-steps (recording_of o w.asked outs) x (schedule_of (recording_of o w.asked outs) (opened_run p)) k, n) in
    record {
      opening = o;
      asked = w.asked;
      asks = w.asks;
      recorded_each = w.counted;
      steps = schedule_of (recording_of o w.asked outs) (opened_run p);
      step_each = n ∙ w.counted;
      lines = lines_of (recording_of o w.asked outs) (opened_run p) p.recording.values (schedule_of (recording_of o w.asked outs) (opened_run p));
      line_each = shown-lines o w.asked outs lent a each p e same;
      is = rw (w.is, t, box-finished o w.asked outs lent a each p e same, shown-memory o w.asked outs lent a each p e same, d, w.counted, w.left);
    }
