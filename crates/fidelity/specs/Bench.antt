-- The second list of a whole run (document 01, "Whole runs"): steps from an accepted replay opening, with any task numbers.
use Rattle.std.specs.Prelude.{Bool, true, ◌&&◌, List, [], ◌∷◌, ◌≡◌, ℕ, ◌+◌, eqb}
use Rattle.codec.specs.Bit.{bit}
use Rattle.pending.specs.declared.Run.{Run}
use Rattle.replayer.specs.declared.Stepped.{Stepped}
use Rattle.replayer.specs.OpenOf.{open_of}
use Rattle.replayer.specs.StepOf.{step_of}

-- the run and the memory after some steps
pub record Bench : Type 0 where
  pub run : Run
  pub memory : List ℕ

abbrev pub bench_of : List ℕ → List ℕ → Bench
bench_of bytes memory = record { run = (open_of bytes memory).answer.run; memory = (open_of bytes memory).memory }

abbrev pub answer_of : List ℕ → Bench → ℕ → Stepped
answer_of bytes b t = (step_of b.run bytes b.memory t).answer

abbrev pub stepped : List ℕ → Bench → ℕ → Bench
stepped bytes b t = record { run = (answer_of bytes b t).run; memory = (step_of b.run bytes b.memory t).memory }

unfoldable pub stepped_all : List ℕ → Bench → List ℕ → Bench
stepped_all bytes b [] = b
stepped_all bytes b (t ∷ steps) = stepped_all bytes (stepped bytes b t) steps

-- a step is taken if its answer is 0
abbrev pub takes : List ℕ → Bench → ℕ → Bool
takes bytes b t = eqb (answer_of bytes b t).number 0

-- the number of steps taken, and the number taken by one task
unfoldable pub tally : List ℕ → Bench → List ℕ → ℕ
tally bytes b [] = 0
tally bytes b (t ∷ steps) = bit (takes bytes b t) + tally bytes (stepped bytes b t) steps

unfoldable pub tally_of : ℕ → List ℕ → Bench → List ℕ → ℕ
tally_of u bytes b [] = 0
tally_of u bytes b (t ∷ steps) = bit (takes bytes b t && eqb t u) + tally_of u bytes (stepped bytes b t) steps

unfoldable pub AllTaken : List ℕ → Bench → List ℕ → Type 0
AllTaken bytes b [] = Unit {0}
AllTaken bytes b (t ∷ steps) = (takes bytes b t ≡ true) × AllTaken bytes (stepped bytes b t) steps
