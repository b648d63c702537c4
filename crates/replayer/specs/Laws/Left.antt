-- What is left of a task's body, as the accesses that its bytes read as: all of them at the start, one less after each step of that task,
-- unchanged by a step of another. The next entry is the first of them.
use Rattle.std.specs.Prelude.{Ok, ◌≡◌, List, [], ℕ, ◌+◌, length, get_or}
use Rattle.codec.specs.declared.number.Reason.TheVariants.{InBody}
use Rattle.entries.specs.declared.Limits.{Limits}
use Rattle.entries.specs.Body.{body_entries}
use Rattle.entries.specs.Bytes.{entry_length}
use Rattle.entries.specs.Entry.{entry_at}
use Rattle.reader.specs.Parse.{Parsed}
use Rattle.entries.specs.Part.{part}
use Rattle.entries.specs.Reading.{stop}
use Rattle.entries.specs.Recording.{Entry}
use Rattle.pending.specs.declared.TaskRun.{TaskRun}
use Rattle.pending.specs.declared.Run.{Run}
use Rattle.pending.specs.Run.{task_at, limits_of, advanced}
use Rattle.replayer.specs.OpenOf.{opened_run}

-- the bytes from the task's place to its body's end read as these accesses
abbrev pub LeftOf : Limits → TaskRun → List ℕ → List Entry → Type 0
LeftOf m x b es = body_entries m x.place (part x.place x.end b) ≡ Ok es

abbrev pub Left : Run → List ℕ → ℕ → List Entry → Type 0
Left r b t es = LeftOf (limits_of r t) (task_at r.runs t) b es

-- a body that begins with an entry: the entry is read first, and then the rest
pub record First (m : Limits) (x : TaskRun) (b : List ℕ) (e : Entry) (es : List Entry) : Type 0 where
  pub entry : entry_at m (stop InBody x.place) x.place (part x.place x.end b) ≡ Ok e
  pub rest : LeftOf m (advanced x (x.place + entry_length e)) b es

-- at the start all of the task's accesses are left, and their number is its count
pub record LeftWhole (b : List ℕ) (p : Parsed) (t : ℕ) : Type 0 where
  pub left : Left (opened_run p) b t (get_or p.recording.bodies t [])
  pub count : (task_at (opened_run p).runs t).count ≡ length (get_or p.recording.bodies t [])
