-- Two benches that play one recording: where each task has done the same number of accesses they hold the same.
use Rattle.std.specs.Prelude.{true, List, [], ◌∷◌, ◌≡◌, refl, ℕ, suc}
use Rattle.std.proofs.Common.{sym, ap, ◌∙◌, eqb-true, ext_get_or}
use Rattle.std.proofs.Math.Path.{fun_ext}
use Rattle.history.specs.Entry.{Act, read, write, acquire}
use Rattle.history.specs.Faithful.{after as after_in}
use Rattle.history.specs.History.{History}
use Rattle.history.proofs.Laws.Access.{access_unique}
use Rattle.history.proofs.Laws.Done.{entries_in}
use Rattle.history.proofs.Laws.Faithful.{faithful}
use Rattle.history.proofs.Laws.Run.{tally-after}
use Rattle.pending.specs.declared.Run.{Run}
use Rattle.playability.specs.Order.{times}
use Rattle.reader.specs.Parse.{Parsed}
use Rattle.replayer.specs.declared.Stepped.{Stepped}
use Rattle.replayer.specs.InPlace.{shown_of}
use Rattle.replayer.proofs.Laws.Frame.{frame_same}
use Rattle.replayer.specs.OpenOf.{open_of, opened_run}
use Rattle.replayer.specs.ReadyOf.{ready_of}
use Rattle.fidelity.specs.Bench.{Bench, bench_of, answer_of, stepped, stepped_all, takes, tally, tally_of, AllTaken}
use Rattle.fidelity.specs.Box.{Opening, Asked, recorded, recording_of}
use Rattle.fidelity.specs.Laws.BoxMatches.{parsed_by}
use Rattle.fidelity.proofs.Laws.BoxMatches.{box_matches}
use Rattle.fidelity.specs.Laws.FirstBox.{start_of}
use Rattle.fidelity.specs.Laws.LeftOver.{left_of}
use Rattle.fidelity.specs.Laws.Matches.{Matches}
use Rattle.fidelity.proofs.Laws.Replayed.{sim, framed, done-same, counts_same, kind-recorded, answers_recorded}
use Rattle.fidelity.specs.Paused.{Paused, AtOnePlace, Same}
use Rattle.fidelity.specs.Statement.{Accepted, Shows}

-- the steps of an allowed order are all counted
taken-times : (u : ℕ) (bytes : List ℕ) (b : Bench) (steps : List ℕ) → AllTaken bytes b steps → tally_of u bytes b steps ≡ times u steps
unfolding AllTaken tally_of times
taken-times u bytes b [] all = refl
taken-times u bytes b (t ∷ steps) all = rw (all.0, taken-times u bytes (stepped bytes b t) steps all.1)

-- two steps that show one act
shown-same : (fields : ℕ) (a : Act) (x y : Stepped) → Shows fields x a → Shows fields y a → (x.object ≡ y.object) × (x.field ≡ y.field) × (x.value ≡ y.value)
shown-same fields (read cell value) x y s t = (s.1 ∙ sym t.1, s.2 ∙ sym t.2, s.3 ∙ sym t.3)
shown-same fields (write cell value) x y s t = (s.1 ∙ sym t.1, s.2 ∙ sym t.2, s.3 ∙ sym t.3)
shown-same fields (acquire number) x y s t = absurd s

-- two answers that agree but for the run
answer-same : (x y : Stepped) → x.number ≡ y.number → x.offset ≡ y.offset → x.kind ≡ y.kind → x.object ≡ y.object → x.field ≡ y.field → x.value ≡ y.value → x.access ≡ y.access
    → shown_of x ≡ shown_of y
answer-same x y n o k b f v a = λ i. record { number = n i; offset = o i; kind = k i; object = b i; field = f i; value = v i; access = a i }

module _ (start : ℕ → ℕ) (h : History) (bytes : List ℕ) (p : Parsed) (m : Matches start h bytes p) (one other : List ℕ) (z : (open_of bytes one).answer.number ≡ 0)
    (y : (open_of bytes other).answer.number ≡ 0) (steps others : List ℕ) where
  abbrev here : Bench
  here = stepped_all bytes (bench_of bytes one) steps

  abbrev there : Bench
  there = stepped_all bytes (bench_of bytes other) others

  module _ (d : (t : ℕ) → tally_of t bytes (bench_of bytes one) steps ≡ tally_of t bytes (bench_of bytes other) others) where
    same-done : (t : ℕ) → (after_in start h steps).done t ≡ (after_in start h others).done t
    same-done t = ap (λ (f : ℕ → ℕ). f t) (sym (done-same start h bytes p m one z steps) ∙ fun_ext d ∙ done-same start h bytes p m other y others)

    pub run-same : here.run ≡ there.run
    run-same =
        let i = sim start h bytes p m one z steps in
        let j = sim start h bytes p m other y others in
        frame_same (opened_run p) here.run there.run bytes (framed start h bytes p m one z steps) (framed start h bytes p m other y others) i.sound j.sound
        (λ t l. i.done t ∙ same-done t ∙ sym (j.done t))
        (λ t l. record { entries = left_of p.recording.fields t ((after_in start h steps).done t) h; one = i.left t l; other = rw (same-done t) (j.left t l) })

    -- the number of steps taken in all depends only on how many each task has taken
    pub tally-same : tally bytes (bench_of bytes one) steps ≡ tally bytes (bench_of bytes other) others
    tally-same =
        counts_same start h bytes p m one z steps
        ∙ sym (tally-after start h steps)
        ∙ ap (λ (d : ℕ → ℕ). entries_in d h) (fun_ext same-done)
        ∙ tally-after start h others
        ∙ sym (counts_same start h bytes p m other y others)

    pub memory-same : here.memory ≡ there.memory
    memory-same =
        let i = sim start h bytes p m one z steps in
        let j = sim start h bytes p m other y others in
        ext_get_or 0 here.memory there.memory (i.entries ∙ sym j.entries)
        (λ c l. i.memory c (rw i.entries at l) ∙ (faithful m.sound).confluent_memory steps others same-done c ∙ sym (j.memory c (rw i.entries at l)))

  pub next-same : (t : ℕ) → tally_of t bytes (bench_of bytes one) steps ≡ tally_of t bytes (bench_of bytes other) others → takes bytes here t ≡ true → takes bytes there t ≡ true
      → shown_of (answer_of bytes here t) ≡ shown_of (answer_of bytes there t)
  next-same t d a b =
      let (e, access, number, shows) = answers_recorded start h bytes p m one z steps t a in
      let (f, other-access, other-number, other-shows) = answers_recorded start h bytes p m other y others t b in
      let same : f ≡ e = access_unique other-access (rw d at access) in
      let v = shown-same p.recording.fields e.act (answer_of bytes here t) (answer_of bytes there t) shows (rw same at other-shows) in
      let k = kind-recorded start h bytes p m one z steps t a in
      let l = kind-recorded start h bytes p m other y others t b in
      answer-same (answer_of bytes here t) (answer_of bytes there t) (eqb-true _ _ a ∙ sym (eqb-true _ _ b)) (k.offset ∙ sym l.offset)
      (k.kind e access ∙ sym (l.kind e (rw (← d) access))) v.0 v.1 v.2 (number ∙ ap suc d ∙ sym other-number)

module _ (o : Opening) (asked : List Asked) (outs : ℕ → List ℕ) (one other : List ℕ) (a : Accepted o asked outs one) (b : Accepted o asked outs other) where
  matches : Matches (start_of o) (recorded o asked) (recording_of o asked outs) (parsed_by o asked)
  matches = box_matches o a.opened asked outs a.packed

  same : (steps others : List ℕ) → AtOnePlace o asked outs one other steps others → Same o asked outs one other steps others
  same steps others d =
      let r = run-same (start_of o) (recorded o asked) (recording_of o asked outs) (parsed_by o asked) matches one other a.replayed b.replayed steps others d in
      record {
        memory = memory-same (start_of o) (recorded o asked) (recording_of o asked outs) (parsed_by o asked) matches one other a.replayed b.replayed steps others d;
        ready = ap (λ (x : Run). ready_of x (recording_of o asked outs)) r;
        run = r;
      }

  pub same-tally : (steps others : List ℕ) → AtOnePlace o asked outs one other steps others
      → tally (recording_of o asked outs) (bench_of (recording_of o asked outs) one) steps ≡ tally (recording_of o asked outs) (bench_of (recording_of o asked outs) other) others
  same-tally = tally-same (start_of o) (recorded o asked) (recording_of o asked outs) (parsed_by o asked) matches one other a.replayed b.replayed

  pub paused : Paused o asked outs one other
  paused = record {
    at_one_place = same;
    allowed_orders = λ steps others s t e. same steps others (λ u. taken-times u _ _ steps s ∙ e u ∙ sym (taken-times u _ _ others t));
    next_is_known = next-same (start_of o) (recorded o asked) (recording_of o asked outs) (parsed_by o asked) matches one other a.replayed b.replayed;
  }
