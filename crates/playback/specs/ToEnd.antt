-- A recording played to its end in one call: opened, then the lowest ready task is stepped until a step is not taken (document 01,
-- "Replay"). A refused opening gives its number and offset and leaves the memory as it was; otherwise the number is 0 and the memory is
-- what the run ended with, also where a 19 stopped it, which is told apart (document 02, F-3).
use Rattle.std.specs.Prelude.{false, cond, List, ℕ, eqb}
use Rattle.playback.specs.declared.to_end.Replayed.{Replayed}
use Rattle.entries.specs.Reading.{numbered}
use Rattle.scheduler.specs.Finish.{Play, finish_of, finished_of}
use Rattle.playback.specs.Shown.{stopped_of}
use Rattle.replayer.specs.OpenOf.{open_of}

-- a recording played from its start
abbrev pub play_of : List ℕ → List ℕ → Play
play_of b memory = finish_of b (record { run = (open_of b memory).answer.run; memory = (open_of b memory).memory; steps = 0 })

-- the answer, and the memory after the call
pub record EndOutcome : Type 0 where
  pub answer : Replayed
  pub memory : List ℕ

abbrev pub refused_end : ℕ → ℕ → Replayed
refused_end number offset = record { number = number; offset = offset; steps = 0; finished = false; stopped = numbered 0 0 }

-- the result of a play
abbrev pub ended_of : List ℕ → Play → EndOutcome
ended_of b x = record { answer = record { number = 0; offset = 0; steps = x.steps; finished = finished_of x.run; stopped = stopped_of b x }; memory = x.memory }

unfoldable pub to_end_of : List ℕ → List ℕ → EndOutcome
to_end_of b memory =
    cond (eqb (open_of b memory).answer.number 0) (ended_of b (play_of b memory))
    (record { answer = refused_end (open_of b memory).answer.number (open_of b memory).answer.offset; memory = memory })
