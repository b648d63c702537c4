-- The two outcomes of a step (document 01, "Replay"): it is taken and does its task's next access, or it is refused. The files above use
-- `step_goes` and do not look into the replay's functions.
use Rattle.std.specs.Prelude.{◌≡◌, refl, ◌↔◌, true, false, ℕ, suc}
use Rattle.std.proofs.Math.Option.{Option, some, none}
use Rattle.std.proofs.Common.{arith}
use Rattle.codec.specs.Laws.Decide.{passes, fails, split, never}
use Rattle.history.specs.Entry.{Entry}
use Rattle.history.specs.History.{History}
use Rattle.history.specs.Access.{Access}
use Rattle.history.specs.Closed.{Met}
use Rattle.history.specs.Replay.{State, next, all_met, unheld, is_ready, one_more, perform, shown, step, answer, takes}
use Rattle.history.specs.Ready.{Ready}
use Rattle.history.proofs.Laws.Ready.{next-access, next-none, all_met-met, met-all_met, access-ready}
use Rattle.history.specs.Laws.Step.{Goes, refused, taken}

pub step_goes : (h : History) (s : State) (t : ℕ) → Goes h s t
unfolding step answer
step_goes h s t = go (next t (s.done t) h) refl
  where
    go : (o : Option Entry) → next t (s.done t) h ≡ o → Goes h s t
    go none p = refused (record {
      unready = rw p;
      barred = λ r. omega (arith, next-none t (s.done t) h p, r.left);
      stays = rw p;
      silent = rw p;
    })
    go (some e) p =
        let a : Access h t (suc (s.done t)) e = next-access t (s.done t) h e p in
        elim (split (unheld s.done (some e))) [
          | passes q ↦ taken e (record { ready = rw p q; access = a; met = all_met-met s.done e.orderings q; moves = rw (p, q); answers = rw (p, q) })
          | fails q ↦ refused (record {
            unready = rw p q;
            barred = λ r. never (all_met s.done e.orderings) (met-all_met s.done e.orderings (r.met a)) q;
            stays = rw (p, q);
            silent = rw (p, q);
          })
        ]

-- the replay's test is true exactly for the ready tasks
pub ready_iff : (h : History) (s : State) (t : ℕ) → (is_ready h s t ≡ true) ↔ Ready h s.done t
ready_iff h s t = elim (step_goes h s t) [
  | taken e k ↦ (λ p. access-ready s.done k.access k.met, λ r. k.ready)
  | refused k ↦ (λ p. absurd (never (is_ready h s t) p k.unready), λ r. absurd (k.barred r))
]

-- a step is taken exactly when its task is ready
pub takes-ready : (h : History) (s : State) (t : ℕ) → takes h s t ≡ is_ready h s t
takes-ready h s t = elim (step_goes h s t) [
  | taken e k ↦ rw (k.answers, k.ready)
  | refused k ↦ rw (k.silent, k.unready)
]

pub takes_iff : (h : History) (s : State) (t : ℕ) → (takes h s t ≡ true) ↔ Ready h s.done t
takes_iff h s t = rw takes-ready (ready_iff h s t)

-- a step that is not taken changes nothing
pub refused-stays : (h : History) (s : State) (t : ℕ) → takes h s t ≡ false → step h s t ≡ s
refused-stays h s t y = elim (step_goes h s t) [
  | refused r ↦ r.stays
  | taken e r ↦ absurd (never (takes h s t) (rw r.answers) y)
]
