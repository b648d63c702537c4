-- Any list of steps over bytes goes as in the history's replay: the same steps are taken, with the same counts.
use Rattle.std.specs.Prelude.{Bool, ◌&&◌, ◌≡◌, ℕ}
use mathlib.Core.List.{List, [], ◌∷◌}
use Rattle.std.proofs.Math.Path.{refl, sym, ap}
use Rattle.std.proofs.Common.{◌∙◌, arith}
use Rattle.std.proofs.Math.Dec.{eqb}
use Rattle.codec.specs.Bit.{bit}
use Rattle.history.specs.History.{History}
use Rattle.history.specs.Replay.{State, step, takes, run, tally, tally_of, AllTaken}
use Rattle.pending.specs.declared.Run.{Run}
use Rattle.replayer.specs.Laws.Frame.{Frame}
use Rattle.replayer.proofs.Laws.Frame.{frame_step}
use Rattle.fidelity.specs.Bench.{Bench, stepped, stepped_all, takes as takes_by, tally as tally_by, tally_of as tally_of_by, AllTaken as AllTakenBy}
use Rattle.fidelity.specs.Laws.Sim.{Sim}
use Rattle.fidelity.specs.Laws.SimStep.{Holds}
use Rattle.fidelity.proofs.Laws.SimStep.{sim_step}

module _ (start : ℕ → ℕ) (h : History) (bytes : List ℕ) (tasks cells fields : ℕ) (holds : Holds start h tasks) where
  pub sim_run : (s : State) (b : Bench) → Sim start h bytes tasks cells fields s b → (steps : List ℕ) → Sim start h bytes tasks cells fields (run h s steps) (stepped_all bytes b steps)
  unfolding run stepped_all
  sim_run s b i [] = i
  sim_run s b i (t ∷ steps) = sim_run (step h s t) (stepped bytes b t) (sim_step start h bytes tasks cells fields holds s b i t).sim steps

  pub frame_run : (from : Run) (s : State) (b : Bench) → Sim start h bytes tasks cells fields s b → Frame from b.run → (steps : List ℕ) → Frame from (stepped_all bytes b steps).run
  unfolding stepped_all
  frame_run from s b i f [] = f
  frame_run from s b i f (t ∷ steps) = frame_run from (step h s t) (stepped bytes b t) (sim_step start h bytes tasks cells fields holds s b i t).sim
      (frame_step from b.run bytes b.memory t f i.sound (i.entries ∙ sym i.cells_same)) steps

  pub tally-same : (s : State) (b : Bench) → Sim start h bytes tasks cells fields s b → (steps : List ℕ) → tally_by bytes b steps ≡ tally h s steps
  unfolding tally tally_by
  tally-same s b i [] = refl
  tally-same s b i (t ∷ steps) =
      let a = sim_step start h bytes tasks cells fields holds s b i t in
      rw (a.same, tally-same (step h s t) (stepped bytes b t) a.sim steps)

  pub tally_of_same : (u : ℕ) (s : State) (b : Bench) → Sim start h bytes tasks cells fields s b → (steps : List ℕ) → tally_of_by u bytes b steps ≡ tally_of u h s steps
  unfolding tally_of tally_of_by
  tally_of_same u s b i [] = refl
  tally_of_same u s b i (t ∷ steps) =
      let a = sim_step start h bytes tasks cells fields holds s b i t in
      let e : bit (takes_by bytes b t && eqb t u) ≡ bit (takes h s t && eqb t u) = ap (λ (x : Bool). bit (x && eqb t u)) a.same in
      omega (arith, e, tally_of_same u (step h s t) (stepped bytes b t) a.sim steps)

  pub all-taken-same : (s : State) (b : Bench) → Sim start h bytes tasks cells fields s b → (steps : List ℕ) → AllTaken h s steps → AllTakenBy bytes b steps
  unfolding AllTaken AllTakenBy
  all-taken-same s b i [] all = tt
  all-taken-same s b i (t ∷ steps) all =
      let a = sim_step start h bytes tasks cells fields holds s b i t in
      (a.same ∙ all.0, all-taken-same (step h s t) (stepped bytes b t) a.sim steps all.1)
