-- After an accepted replay opening of bytes that record a history, the run is where the history's replay starts.
use Rattle.std.specs.Prelude.{Ok, List, ◌≡◌, refl, ℕ, length}
use Rattle.std.proofs.Common.{sym, ap, ◌∙◌}
use Rattle.reader.specs.Parse.{Parsed}
use Rattle.entries.specs.Reading.{Reading}
use Rattle.history.specs.History.{History}
use Rattle.history.proofs.Laws.Run.{kept_fresh}
use Rattle.history.specs.Replay.{fresh}
use Rattle.replayer.proofs.Laws.Left.{left-opened}
use Rattle.replayer.specs.Laws.OpenOf.{AtStart, Opens}
use Rattle.replayer.proofs.Laws.OpenOf.{opened-stands, open_accepts, open_accepted}
use Rattle.replayer.specs.OpenOf.{opened_run, open_of}
use Rattle.fidelity.specs.Bench.{bench_of}
use Rattle.fidelity.proofs.Laws.Filed.{filed-count}
use Rattle.fidelity.proofs.Laws.LeftOver.{left-all}
use Rattle.fidelity.specs.Laws.Matches.{Matches}
use Rattle.fidelity.specs.Laws.Sim.{Sim}
use Rattle.fidelity.specs.Laws.SimStep.{Holds}
use Rattle.pending.specs.Run.{cell_count}

module _ (start : ℕ → ℕ) (h : History) (bytes : List ℕ) (p : Parsed) (m : Matches start h bytes p) where
  pub holds : Holds start h p.recording.tasks
  holds = record { sound = m.sound; low = λ a. m.tasks_low a; recordable = λ a. m.recordable a }

  module _ (memory : List ℕ) (z : (open_of bytes memory).answer.number ≡ 0) where
    entries : length memory ≡ cell_count (opened_run p)
    entries =
        let o : Opens bytes memory = open_accepted bytes memory z in
        let e : ◌≡◌ {A = Reading Parsed} (Ok o.parsed) (Ok p) = sym o.reads ∙ m.reads in
        let q : o.parsed ≡ p = cc in
        rw q at o.entries

    pub opened-is : bench_of bytes memory ≡ record { run = opened_run p; memory = p.recording.values }
    opened-is = rw (open_accepts bytes memory p m.reads entries)

    pub sim_start : Sim start h bytes p.recording.tasks (cell_count (opened_run p)) p.recording.fields (fresh start) (bench_of bytes memory)
    sim_start =
        let a : AtStart bytes p = opened-stands bytes p m.reads in
        rw opened-is (record {
          kept = kept_fresh start h;
          sound = a.sound;
          shaped = a.shaped;
          tasks_same = refl;
          fields_same = refl;
          cells_same = refl;
          entries = a.values;
          done = a.done;
          counts = λ t l. (left-opened bytes p m.reads t l).count ∙ ap length (m.bodies t l) ∙ filed-count p.recording.fields t h;
          left = λ t l. rw (left-all p.recording.fields t h, ← m.bodies t l) (left-opened bytes p m.reads t l).left;
          memory = m.values;
        })
