-- What holds after any calls from an accepted opening: the state, the memory and the history follow the tracker, each log is the bytes of
-- its task's entries, and these are in range. It holds after opening, and each call keeps it.
use Rattle.std.specs.Prelude.{[], ◌∷◌, ◌++◌, ◌≡◌, ℕ, ◌*◌, ◌≤◌, ◌<◌, length, get_or}
use Rattle.std.proofs.Common.{◌∙◌}
use Rattle.std.proofs.Math.Decide.{ℕ_discrete}
use Rattle.entries.specs.declared.Limits.{Limits}
use Rattle.entries.specs.Bytes.{body_bytes}
use Rattle.reader.specs.Range.{EntriesIn}
use Rattle.history.specs.Entry.{Entry}
use Rattle.history.specs.History.{History, count, At}
use Rattle.tracker.specs.Laws.Tracks.{Tracks}
use Rattle.recorder.specs.WholeRun.{Box}
use Rattle.fidelity.specs.Filed.{filed_of}
use Rattle.fidelity.specs.Laws.Matches.{Recordable}
use Rattle.codec.specs.Cell.{cells_of}

abbrev pub limits : ℕ → ℕ → ℕ → ℕ → Limits
limits tasks objects fields t = record { tasks = tasks; objects = objects; fields = fields; own = t }

-- the box after some calls, and the history of the accepted accesses
pub record Follows (start : ℕ → ℕ) (tasks objects fields : ℕ) (b : Box) (h : History) : Type 0 where
  pub tracks : Tracks start b.state (λ c. get_or b.memory c 0) h
  pub tasks_are : b.state.tasks ≡ tasks
  pub objects_are : b.state.objects ≡ objects
  pub fields_are : b.state.fields ≡ fields
  pub memory_each : length b.memory ≡ cells_of fields objects
  pub values : (c : ℕ) → get_or b.memory c 0 < 4294967296
  pub logs : (t : ℕ) → b.logs t ≡ body_bytes (filed_of fields t h)
  pub small : (t : ℕ) → length (b.logs t) ≤ 140 * count t h
  pub entries : (t : ℕ) → EntriesIn (limits tasks objects fields t) (filed_of fields t h)
  pub recordable : {e : Entry} {g : History} → At e g h → Recordable e.act
