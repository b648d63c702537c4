-- After the last step of a recording whose play no 19 stopped, no task is ready, and each task that has accesses left has its line. The
-- access that it waits for comes in no allowed order.
use Rattle.std.specs.Prelude.{Ok, ◌≡◌, true, List, ℕ, ◌<◌}
use Rattle.reader.specs.Parse.{Parsed, parse}
use Rattle.codec.specs.declared.Position.{Position}
use Rattle.entries.specs.Recording.{Entry}
use Rattle.pending.specs.declared.Run.{Run}
use Rattle.pending.specs.Unmet.{first, unmet_next}
use Rattle.playability.proofs.Laws.Theorem.{never_comes}
use Rattle.playability.specs.Order.{times, Allowed}
use Rattle.replayer.proofs.Laws.Along.{along_opened}
use Rattle.replayer.specs.OpenOf.{opened_run}
use Rattle.replayer.proofs.Laws.OpenOf.{opened-stands}
use Rattle.replayer.specs.ReadyOf.{has_left}
use Rattle.scheduler.specs.Finish.{Play}
use Rattle.scheduler.specs.Schedule.{schedule_of, settled_of}
use Rattle.scheduler.proofs.Laws.Schedule.{schedule_settled}
use Rattle.scheduler.proofs.Laws.Settled.{settled_along, settled_ends}
use Rattle.waits.specs.Laws.WaitsEach.{Waiting}
use Rattle.waits.proofs.Laws.WaitsEach.{waits_each}
use Rattle.transcript.specs.Told.{stop_in, after_of}
use Rattle.transcript.proofs.Laws.Told.{stop-taken}
use Rattle.transcript.specs.Laws.ReasonsEach.{NeverComes, ReasonEach}

module _ (b : List ℕ) (p : Parsed) (e : parse b ≡ Ok p) (z : (stop_in b (opened_run p) p.recording.values (schedule_of b (opened_run p))).number ≡ 0) where
  -- the play's run is the one without a memory
  settles : (after_of b (opened_run p) p.recording.values (schedule_of b (opened_run p))).run ≡ settled_of b (opened_run p)
  settles =
      let s = opened-stands b p e in
      let x : Play = record { run = opened_run p; memory = p.recording.values; steps = 0 } in
      schedule_settled b x (record { sound = s.sound; shaped = s.shaped; entries = s.values }) (stop-taken b x (schedule_of b (opened_run p)) z)

  pub reason_each : ReasonEach b (after_of b (opened_run p) p.recording.values (schedule_of b (opened_run p))).run
  reason_each =
      let s = opened-stands b p e in
      let a = along_opened b p e in
      rw settles (waits_each b p.recording.bodies _ (settled_along b p.recording.bodies (opened_run p) a) (settled_ends b (opened_run p) s.sound s.shaped))

  pub reason_never : NeverComes b p.recording.bodies (after_of b (opened_run p) p.recording.values (schedule_of b (opened_run p))).run
  reason_never = rw settles (λ t h l place q f. never_comes b p e t h l place q f)
