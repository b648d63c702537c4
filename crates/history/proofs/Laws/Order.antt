-- The recorded order (document 01, "Whole runs"), which is the tasks of the entries from the oldest on, is taken completely: at each step
-- the counts are those of the box at that moment, so the next entry's task is ready.
use Rattle.std.specs.Prelude.{◌≡◌, refl}
use Rattle.std.proofs.Common.{sym, arith}
use Rattle.std.proofs.Math.Path.{ap}
use mathlib.Core.List.{List, [], ◌∷◌, ◌++◌}
use Rattle.std.proofs.Math.Bool.{true}
use Prim.Native.Nat.{ℕ, suc}
use Rattle.history.specs.Entry.{Entry}
use Rattle.history.specs.History.{History, count, At, here}
use Rattle.history.proofs.Laws.History.{at_trans}
use Rattle.history.proofs.Laws.Closed.{met_mono}
use Rattle.history.specs.Sound.{Sound}
use Rattle.history.specs.Replay.{State, step, takes, run, AllTaken, fresh, recorded_order}
use Rattle.history.specs.Ready.{Ready}
use Rattle.history.proofs.Laws.Ready.{access-ready}
use Rattle.history.proofs.Laws.Step.{takes_iff}
use Rattle.history.proofs.Laws.Run.{done-step}
use Rattle.history.specs.Laws.Order.{Past}

run-append : (h : History) (first second : List ℕ) (s : State) → run h s (first ++ second) ≡ run h (run h s first) second
unfolding run
run-append h [] second s = refl
run-append h (t ∷ first) second s = run-append h first second (step h s t)

taken-append : (h : History) (first second : List ℕ) (s : State) → AllTaken h s first → AllTaken h (run h s first) second → AllTaken h s (first ++ second)
unfolding run AllTaken
taken-append h [] second s p q = q
taken-append h (t ∷ first) second s p q = (p.0, taken-append h first second (step h s t) p.1 q)

past_whole : (h : History) → Past h h
past_whole [] = tt
past_whole (e ∷ g) = here

past_before : (h : History) (e : Entry) (g : History) → At e g h → Past h g
past_before h e [] a = tt
past_before h e (f ∷ k) a = at_trans a here

module _ {start : ℕ → ℕ} {h : History} (so : Sound start h) where
  recorded : (g : History) → Past h g → AllTaken h (fresh start) (recorded_order g) × ((t : ℕ) → (run h (fresh start) (recorded_order g)).done t ≡ count t g)
  unfolding recorded_order AllTaken run count
  recorded [] p = (tt, λ t. refl)
  recorded (e ∷ g) a =
      let (whole, counts) = recorded g (past_before h e g a) in
      let s : State = run h (fresh start) (recorded_order g) in
      let r : Ready h s.done e.task = access-ready s.done
      (record { before = g; at = a; own = refl; number = ap suc (sym (counts e.task)) })
      (met_mono (λ t. count t g) s.done (λ t. omega (arith, counts t)) e.orderings (so.points_back a)) in
      let y : takes h s e.task ≡ true = (takes_iff h s e.task).1 r in
      (taken-append h (recorded_order g) (e.task ∷ []) (fresh start) whole (y, tt), λ t. rw (run-append, done-step t h s e.task, y, counts t))

  pub recorded-taken : AllTaken h (fresh start) (recorded_order h)
  recorded-taken = (recorded h (past_whole h)).0
