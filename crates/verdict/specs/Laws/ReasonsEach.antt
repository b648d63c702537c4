-- Where a recording cannot be played to its end, each task that has accesses left has its line, and what the line says is true: the access
-- that the task waits for comes in no allowed order.
use Rattle.std.specs.Prelude.{Ok, ◌≡◌, true, List, ℕ, ◌<◌}
use Rattle.reader.specs.Parse.{Parsed, parse}
use Rattle.replayer.proofs.Laws.Along.{along_opened}
use Rattle.replayer.specs.OpenOf.{opened_run}
use Rattle.replayer.specs.ReadyOf.{has_left}
use Rattle.scheduler.proofs.Laws.Settled.{settled_along, settled_ends}
use Rattle.scheduler.specs.Schedule.{settled_of}
use Rattle.playability.proofs.Laws.Theorem.{never_comes}
use Rattle.playability.specs.Order.{times, Allowed}
use Rattle.waits.specs.Laws.WaitsEach.{Waiting}
use Rattle.waits.proofs.Laws.WaitsEach.{waits_each}

pub record Told (b : List ℕ) (p : Parsed) (t : ℕ) : Type 0 where
  pub waiting : Waiting b (settled_of b (opened_run p)) t
  pub never : (order : List ℕ) → Allowed p.recording.bodies order → times waiting.ordering.task order < waiting.ordering.number

pub reason_each : (b : List ℕ) (p : Parsed) → parse b ≡ Ok p → (t : ℕ) → t < (settled_of b (opened_run p)).tasks → has_left (settled_of b (opened_run p)) t ≡ true → Told b p t
reason_each b p e t h l =
    let a = along_opened b p e in
    let w = waits_each b p.recording.bodies _ (settled_along b p.recording.bodies (opened_run p) a) (settled_ends b (opened_run p) a.sound a.shaped) t h l in
    record { waiting = w; never = never_comes b p e t h l w.place w.ordering w.unmet }
