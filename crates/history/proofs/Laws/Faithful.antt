-- Laws of `Faithful`.
use Rattle.std.specs.Prelude.{◌≡◌, refl, List, true, ℕ, suc, length}
use Rattle.std.proofs.Common.{sym, ap, ◌∙◌, arith, eq-eqb, ne_eqb}
use Rattle.std.proofs.Math.Path.{fun_ext}
use Rattle.std.proofs.Math.Option.{some}
use Rattle.std.proofs.Math.Bool.{and-false}
use Rattle.codec.specs.Laws.Decide.{never}
use Rattle.history.specs.Entry.{Act, Entry}
use Rattle.history.specs.History.{History}
use Rattle.history.specs.Access.{Access}
use Rattle.history.specs.Memory.{memory_of}
use Rattle.history.proofs.Laws.Memory.{memory-all}
use Rattle.history.specs.Sound.{Sound}
use Rattle.history.specs.Replay.{State, next, unheld, answer, takes, tally, fresh}
use Rattle.history.specs.Laws.Step.{taken, refused}
use Rattle.history.proofs.Laws.Step.{step_goes, ready_iff, takes_iff, refused-stays}
use Rattle.history.proofs.Laws.Advance.{shown-recorded}
use Rattle.history.specs.Laws.Done.{AllDone}
use Rattle.history.proofs.Laws.Done.{entries-few, all-entries, entries-all, all_in}
use Rattle.history.specs.Laws.Progress.{finished, ready}
use Rattle.history.proofs.Laws.Progress.{progress, finished_unready}
use Rattle.history.specs.Laws.Run.{Kept}
use Rattle.history.proofs.Laws.Run.{kept-after, done-step, done-after, tally-after}
use Rattle.history.proofs.Laws.Order.{recorded-taken}
use Rattle.history.specs.Faithful.{after, Faithful}

module _ {start : ℕ → ℕ} {h : History} (so : Sound start h) where
  all_done : (steps : List ℕ) → tally h (fresh start) steps ≡ length h → AllDone (after start h steps).done h
  all_done steps p = all-entries (after start h steps).done h (tally-after start h steps ∙ p)

  answers : (s : State) (t : ℕ) → Kept start h s → takes h s t ≡ true
      → (e : Entry) × Access h t (suc (s.done t)) e × (answer h s t ≡ some (record { number = suc (s.done t); act = e.act }))
  answers s t k y = elim (step_goes h s t) [
    | refused r ↦ absurd (never (takes h s t) y (rw r.silent))
    | taken e r ↦ (
      e,
      r.access,
      r.answers ∙ ap (λ (a : Act). some (record { number = suc (s.done t); act = a }))
          (shown-recorded s.done t r.access k.closed r.met so s.memory k.holds),
    )
  ]

pub faithful : {start : ℕ → ℕ} {h : History} → Sound start h → Faithful start h
faithful {start} {h} so = record {
  taken_when_ready = λ steps t. takes_iff h (after start h steps) t;
  test_tells_ready = λ steps t. ready_iff h (after start h steps) t;
  refused_changes_nothing = λ steps t. refused-stays h (after start h steps) t;
  answers_recorded = λ steps t. answers so (after start h steps) t (kept-after so steps);
  memory_of_writes = λ steps. (kept-after so steps).holds;
  done_is_tally = λ steps t. done-after t start h steps;
  done_bounded = λ steps. (kept-after so steps).bounded;
  tally_bounded = λ steps. omega (arith, tally-after start h steps, entries-few (after start h steps).done h);
  own_moves_on = λ steps t y. done-step t h (after start h steps) t ∙ rw (y, eq-eqb t t refl) (omega arith);
  others_stay = λ steps t u p. done-step u h (after start h steps) t ∙ rw (ne_eqb t u (λ q. p (sym q)), and-false) (omega arith);
  stops_at_end = λ steps. (
    λ stuck. elim (progress (after start h steps).done h (λ e g a. so.points_back a)) [
      | finished all ↦ sym (tally-after start h steps) ∙ entries-all (after start h steps).done h all
      | ready t r ↦ absurd (stuck t r)
    ],
    λ p. finished_unready (all_done so steps p),
  );
  end_done = λ steps p t. omega (arith, all_done so steps p t, (kept-after so steps).bounded t);
  end_memory = λ steps p c. (kept-after so steps).holds c ∙ memory-all start (after start h steps).done c h (λ e g a w. all_in (all_done so steps p) a);
  takes_recorded_order = recorded-taken so;
  confluent_memory = λ steps others p c. (kept-after so steps).holds c ∙ ap (λ (d : ℕ → ℕ). memory_of start d h c) (fun_ext p) ∙ sym ((kept-after so others).holds c);
  confluent_ready = λ steps others p t. ap (λ (d : ℕ → ℕ). unheld d (next t (d t) h)) (fun_ext p);
}
