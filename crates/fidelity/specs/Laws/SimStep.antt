-- One step over bytes and one step of the history's replay: both are taken or neither is, and the relation between the two is kept.
use Rattle.std.specs.Prelude.{true, false, List, ◌∷◌, ◌≡◌, ℕ, suc, ◌+◌, ◌<◌}
use Rattle.std.proofs.Math.Option.{some}
use Rattle.std.proofs.Common.{◌∙◌}
use Rattle.std.proofs.Math.Decide.{ℕ_discrete}
use Rattle.history.specs.Entry.{Entry}
use Rattle.history.specs.History.{History, At}
use Rattle.history.specs.Sound.{Sound}
use Rattle.history.specs.Access.{Access}
use Rattle.history.specs.Replay.{State, shown, step, answer, takes}
use Rattle.history.specs.Laws.Step.{taken}
use Rattle.fidelity.specs.Bench.{Bench, answer_of, stepped, takes as takes_by}
use Rattle.fidelity.specs.Filed.{filed_op}
use Rattle.fidelity.specs.Laws.Matches.{Recordable}
use Rattle.fidelity.specs.Laws.Sim.{Sim}
use Rattle.fidelity.specs.Statement.{Shows, RefusedBy}

-- a taken step and its entry
pub record Played (fields : ℕ) (h : History) (bytes : List ℕ) (s : State) (b : Bench) (t : ℕ) (e : Entry) : Type 0 where
  pub access : Access h t (suc (s.done t)) e
  pub replies : answer h s t ≡ some (record { number = suc (s.done t); act = shown e.act s.memory })
  pub number : (answer_of bytes b t).access ≡ suc (s.done t)
  pub shows : Shows fields (answer_of bytes b t) (shown e.act s.memory)
  pub kind : (answer_of bytes b t).kind ≡ (filed_op fields e.act).kind
  pub offset : (answer_of bytes b t).offset ≡ 0

pub record Alike (start : ℕ → ℕ) (h : History) (bytes : List ℕ) (tasks cells fields : ℕ) (s : State) (b : Bench) (t : ℕ) : Type 0 where
  pub same : takes_by bytes b t ≡ takes h s t
  pub sim : Sim start h bytes tasks cells fields (step h s t) (stepped bytes b t)
  pub played : takes_by bytes b t ≡ true → (e : Entry) × Played fields h bytes s b t e
  pub barred : takes_by bytes b t ≡ false → RefusedBy (answer_of bytes b t).number

-- the history is sound, and every entry is one that a recording with this number of tasks can hold
pub record Holds (start : ℕ → ℕ) (h : History) (tasks : ℕ) : Type 0 where
  pub sound : Sound start h
  pub low : {e : Entry} {g : History} → At e g h → e.task < tasks
  pub recordable : {e : Entry} {g : History} → At e g h → Recordable e.act
