-- Testing one task in the search for the lowest ready one, with a note for each waiting task of how far its orderings have been tested. A
-- note stays true while other tasks step; a step of the task itself goes past the access's record, and the note then says nothing.
use Rattle.std.proofs.Math.Path.{◌≡◌}
use Rattle.std.specs.Prelude.{Option, Some, None, Ok, is_some, List, ℕ, ◌<◌, get_or}
use Rattle.std.specs.Result.{result_unwrap_or}
use Rattle.std.proofs.Math.ListN.{length}
use Rattle.codec.specs.Limit.{max_tasks}
use Rattle.entries.specs.declared.Limits.{Limits}
use Rattle.pending.specs.declared.Run.{Run}
use Rattle.pending.specs.declared.TaskRun.{TaskRun}
use Rattle.pending.specs.declared.next.Open.{Open}
use Rattle.pending.specs.Dones.{dones_of}
use Rattle.pending.specs.Look.{group_at, Looks}
use Rattle.pending.specs.Next.{Next, next_of}
use Rattle.pending.specs.FirstUnmet.{Ahead}
use Rattle.replayer.specs.ReadyOf.{is_ready}
use Rattle.pending.specs.Run.{task_at, limits_of}

-- a note: the access's record is at `at`, and the entry's orderings before `scan` are met; a note about a record that has been passed
-- says nothing
abbrev pub Note : Limits → List ℕ → List ℕ → TaskRun → ℕ → ℕ → Type 0
Note m b dones x scan at = x.place < at → Ahead m b dones x.place x.end scan at

-- the notes of all tasks
pub record Noted (r : Run) (b scans ats : List ℕ) : Type 0 where
  pub scans_all : length scans ≡ max_tasks
  pub ats_all : length ats ≡ max_tasks
  pub notes : (t : ℕ) → Note (limits_of r t) b (dones_of r.runs) (task_at r.runs t) (get_or scans t 0) (get_or ats t 0)

-- the access that may be done
abbrev pub going : Next → Option Open
going n = result_unwrap_or n None

-- what was found about a task, and the notes after it
pub record Visited (r : Run) (b : List ℕ) (t : ℕ) (scans ats : List ℕ) (n : Option Open) : Type 0 where
  pub ready : is_ready r b t ≡ is_some n
  pub opens : (w : Open) → n ≡ Some w → next_of r b t ≡ Ok (Some w)
  pub noted : Noted r b scans ats

-- a place from which a task's group may be looked at: what is found from there is found from the group's start, and its note is the task's
pub record Resumed (m : Limits) (b dones : List ℕ) (x : TaskRun) (from : ℕ) : Type 0 where
  pub looks : (n : Next) → Looks dones from (group_at m b from x.end) n → Looks dones x.place (group_at m b x.place x.end) n
  pub note : (scan at : ℕ) → (0 < at → Ahead m b dones from x.end scan at) → Note m b dones x scan at
