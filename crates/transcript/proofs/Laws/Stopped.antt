-- What stops the play of a recording is 19 and nothing else: the order names ready tasks only.
use Rattle.std.specs.Prelude.{Ok, ◌≡◌, refl, List, ℕ, zero, suc}
use Rattle.codec.specs.Cell.{op_cell}
use Rattle.codec.specs.Laws.Decide.{passes, fails, split}
use Rattle.codec.specs.Number.{differs}
use Rattle.reader.specs.Parse.{Parsed, parse}
use Rattle.replayer.proofs.Laws.OpenOf.{opened-stands}
use Rattle.replayer.specs.Memory.{agrees}
use Rattle.replayer.specs.OpenOf.{opened_run}
use Rattle.scheduler.specs.Finish.{Play, left_over, stepped_by}
use Rattle.scheduler.specs.Laws.Finish.{Playing}
use Rattle.scheduler.specs.Laws.Lowest.{goes_on_lem, stops}
use Rattle.scheduler.proofs.Laws.Lowest.{standing, step-differs}
use Rattle.scheduler.proofs.Laws.Schedule.{schedule_stops, schedule_goes, step-taken}
use Rattle.scheduler.specs.Schedule.{schedule_from, schedule_of}
use Rattle.transcript.specs.Told.{stop_in}

stops_by : (n : ℕ) (b : List ℕ) (x : Play) → Playing b x → ((stop_in b x.run x.memory (schedule_from n b x.run)).number ≡ 0 → ⊥)
    → (stop_in b x.run x.memory (schedule_from n b x.run)).number ≡ differs
unfolding stop_in schedule_from
stops_by zero b x w z = absurd (z refl)
stops_by (suc n) b x w z = elim (standing x.run b w.sound) [
  | stops e ↦ absurd (z (rw (schedule_stops (suc n) b x.run e)))
  | goes_on_lem t op next k ↦ elim (split (agrees (op_cell x.run.fields op) op x.memory)) [
    | fails a ↦ rw (schedule_goes n b x.run t op next k, step-differs b x w t op next k a)
    | passes a ↦
        let s = step-taken b x w t op next k a in
        rw (schedule_goes n b x.run t op next k, s.takes, s.run)
        (stops_by n b (stepped_by b x t) s.playing (rw (schedule_goes n b x.run t op next k, s.takes, s.run) at z))
  ]
]

pub stopped_by_lem : (b : List ℕ) (p : Parsed) → parse b ≡ Ok p → ((stop_in b (opened_run p) p.recording.values (schedule_of b (opened_run p))).number ≡ 0 → ⊥)
    → (stop_in b (opened_run p) p.recording.values (schedule_of b (opened_run p))).number ≡ differs
stopped_by_lem b p e = let s = opened-stands b p e in
    stops_by (left_over (opened_run p)) b (record { run = opened_run p; memory = p.recording.values; steps = 0 }) (record { sound = s.sound; shaped = s.shaped; entries = s.values })
