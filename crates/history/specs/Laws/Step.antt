-- The two outcomes of a step (document 01, "Replay"): it is taken and does its task's next access, or it is refused. The files above use
-- `step_goes` and do not look into the replay's functions.
use Rattle.std.specs.Prelude.{◌≡◌, ◌↔◌, true, false, ℕ, suc}
use Rattle.std.proofs.Math.Option.{some, none}
use Rattle.history.specs.Entry.{Entry}
use Rattle.history.specs.History.{History}
use Rattle.history.specs.Access.{Access}
use Rattle.history.specs.Closed.{Met}
use Rattle.history.specs.Replay.{State, is_ready, one_more, perform, shown, step, answer}
use Rattle.history.specs.Ready.{Ready}

pub record Taken (h : History) (s : State) (t : ℕ) (e : Entry) : Type 0 where
  pub ready : is_ready h s t ≡ true
  pub access : Access h t (suc (s.done t)) e
  pub met : Met s.done e.orderings
  pub moves : step h s t ≡ record { done = one_more t s.done; memory = perform e.act s.memory }
  pub answers : answer h s t ≡ some (record { number = suc (s.done t); act = shown e.act s.memory })

pub record Refused (h : History) (s : State) (t : ℕ) : Type 0 where
  pub unready : is_ready h s t ≡ false
  pub barred : Ready h s.done t → ⊥
  pub stays : step h s t ≡ s
  pub silent : answer h s t ≡ none

pub data Goes (h : History) (s : State) (t : ℕ) : Type 0 where
  taken : (e : Entry) → Taken h s t e → Goes h s t
  refused : Refused h s t → Goes h s t
