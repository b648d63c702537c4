-- The call as the code makes it: what `settle` answers, then the tests in order.
use Rattle.std.specs.Prelude.{Ok, ◌≡◌, List, ℕ, length}
use Rattle.reader.specs.Parse.{Parsed, parse}
use Rattle.replayer.specs.OpenOf.{opened_run}
use Rattle.scheduler.specs.Schedule.{schedule_of, settled_of}
use Rattle.playability.specs.declared.settle.Settled.{Settled}

-- what `settle` answers for a recording
pub record Settles (b : List ℕ) (s : Settled) : Type 0 where
  pub parsed : Parsed
  pub is : parse b ≡ Ok parsed
  pub start : s.start ≡ opened_run parsed
  pub run : s.run ≡ settled_of b (opened_run parsed)
  pub steps : s.steps ≡ length (schedule_of b (opened_run parsed))
