-- Every list of steps (document 01, "Whole runs": the second list). What it preserves: the counts are closed, no task has done more
-- accesses than it has, and the memory is that of the writes that are in. And what the counts are after it.
use Rattle.std.specs.Prelude.{◌≡◌, refl, List, [], ◌∷◌, ◌&&◌, ℕ, ◌+◌, ◌≤◌, eqb}
use Rattle.std.proofs.Common.{sym, ◌∙◌, arith, eq-eqb, ne_eqb}
use Rattle.std.proofs.Math.Decide.{ℕ_discrete}
use Rattle.codec.specs.Bit.{bit}
use Rattle.history.specs.History.{History, count}
use Rattle.history.proofs.Laws.Access.{access_bound}
use Rattle.history.specs.Closed.{Closed}
use Rattle.history.specs.Memory.{memory_of}
use Rattle.history.proofs.Laws.Memory.{memory_start}
use Rattle.history.specs.Sound.{Sound}
use Rattle.history.specs.Replay.{State, step, takes, run, tally, tally_of, fresh}
use Rattle.history.specs.Laws.Step.{taken, refused}
use Rattle.history.proofs.Laws.Step.{step_goes}
use Rattle.history.proofs.Laws.OneMore.{one_more-own, one_more-other}
use Rattle.history.proofs.Laws.Advance.{closed_advance, perform-holds}
use Rattle.history.proofs.Laws.Done.{entries_in, entries_none, entries-more}
use Rattle.history.specs.Laws.Run.{Kept}

pub kept_fresh : (start : ℕ → ℕ) (h : History) → Kept start h (fresh start)
kept_fresh start h = record {
  closed = record { met = λ a i. absurd (omega arith) };
  bounded = λ t. omega arith;
  holds = λ c. sym (memory_start start (λ t. 0) (λ t. refl) h c);
}

pub kept_step : {start : ℕ → ℕ} {h : History} → Sound start h → (s : State) (t : ℕ) → Kept start h s → Kept start h (step h s t)
kept_step {start} {h} so s t k = elim (step_goes h s t) [
  | refused r ↦ rw r.stays k
  | taken e r ↦ rw r.moves (record {
    closed = closed_advance s.done t r.access k.closed r.met;
    bounded = λ u. elim (ℕ_discrete u t) [
      | yes p ↦ rw p (omega (arith, one_more-own t s.done, access_bound r.access))
      | no p ↦ omega (arith, one_more-other t s.done u p, k.bounded u)
    ];
    holds = perform-holds s.done t r.access k.closed r.met so s.memory k.holds;
  })
]

kept_run : {start : ℕ → ℕ} {h : History} → Sound start h → (steps : List ℕ) (s : State) → Kept start h s → Kept start h (run h s steps)
unfolding run
kept_run so [] s k = k
kept_run {h} so (t ∷ steps) s k = kept_run so steps (step h s t) (kept_step so s t k)

pub kept-after : {start : ℕ → ℕ} {h : History} → Sound start h → (steps : List ℕ) → Kept start h (run h (fresh start) steps)
kept-after {start} {h} so steps = kept_run so steps (fresh start) (kept_fresh start h)

-- a task has done as many accesses as it has taken steps
pub done-step : (u : ℕ) (h : History) (s : State) (t : ℕ) → (step h s t).done u ≡ bit (takes h s t && eqb t u) + s.done u
done-step u h s t = elim (step_goes h s t) [
  | refused r ↦ rw (r.stays, r.silent) (omega arith)
  | taken e r ↦ rw (r.moves, r.answers) (elim (ℕ_discrete u t) [
    | yes p ↦ rw (eq-eqb t u (sym p), p) (omega (arith, one_more-own t s.done))
    | no p ↦ rw (ne_eqb t u (λ q. p (sym q))) (omega (arith, one_more-other t s.done u p))
  ])
]

done-run : (u : ℕ) (h : History) (steps : List ℕ) (s : State) → (run h s steps).done u ≡ tally_of u h s steps + s.done u
unfolding run tally_of
done-run u h [] s = omega arith
done-run u h (t ∷ steps) s = omega (arith, done-run u h steps (step h s t), done-step u h s t)

pub done-after : (u : ℕ) (start : ℕ → ℕ) (h : History) (steps : List ℕ) → (run h (fresh start) steps).done u ≡ tally_of u h (fresh start) steps
done-after u start h steps = done-run u h steps (fresh start) ∙ omega arith

-- the number of entries that are in is the number of steps taken
tally-step : (h : History) (s : State) (t : ℕ) → entries_in (step h s t).done h ≡ bit (takes h s t) + entries_in s.done h
tally-step h s t = elim (step_goes h s t) [
  | refused r ↦ rw (r.stays, r.silent) (omega arith)
  | taken e r ↦ rw (r.moves, r.answers)
      (omega (arith, entries-more s.done t h (access_bound r.access)))
]

tally-run : (h : History) (steps : List ℕ) (s : State) → entries_in (run h s steps).done h ≡ tally h s steps + entries_in s.done h
unfolding run tally
tally-run h [] s = omega arith
tally-run h (t ∷ steps) s = omega (arith, tally-run h steps (step h s t), tally-step h s t)

pub tally-after : (start : ℕ → ℕ) (h : History) (steps : List ℕ) → entries_in (run h (fresh start) steps).done h ≡ tally h (fresh start) steps
tally-after start h steps = tally-run h steps (fresh start) ∙ omega (arith, entries_none (λ t. 0) (λ t. refl) h)
