-- The scan for the first unmet ordering of a group that has been read: what it relies on at each point, and what it finds.
use Rattle.std.specs.Prelude.{Ok, None, ◌≡◌, cond, List, ℕ, ◌+◌, ◌*◌, ◌≤◌, ◌<◌, ltb, length, get_or}
use Rattle.codec.specs.Limit.{max_tasks}
use Rattle.entries.specs.declared.Limits.{Limits}
use Rattle.entries.specs.OrderingAt.{ordering_at}
use Rattle.entries.specs.Recording.{Entry}
use Rattle.pending.specs.declared.TaskRun.{TaskRun}
use Rattle.pending.specs.declared.next.Look.{Look}
use Rattle.pending.specs.Dones.{dones_of}
use Rattle.pending.specs.Look.{group_at, Looks}
use Rattle.pending.specs.Next.{judged}
use Rattle.pending.specs.Run.{done_of}
use Rattle.pending.specs.Unmet.{Unmet, none, first, unmet_in}

-- each task has done at least this many accesses
abbrev pub DoneAll : List ℕ → List TaskRun → Type 0
DoneAll dones runs = (s : ℕ) → s < max_tasks → get_or dones s 0 ≤ done_of runs s

-- the ordering at an offset before the access's record, or none if the offset is that record's
unfoldable pub unmet_at : List ℕ → ℕ → ℕ → Unmet
unmet_at b place at = cond (ltb place at) (first place (ordering_at b place)) none

-- a group whose access's record is at `at`, with all orderings before an offset met: whether the whole group is met depends only on the
-- rest, also if more accesses are done
pub record Ahead (m : Limits) (b dones : List ℕ) (from end place at : ℕ) : Type 0 where
  pub few : m.tasks ≤ max_tasks
  pub within : end ≤ length b
  pub entry : Entry
  pub reads : group_at m b place end ≡ Ok entry
  pub stands : at ≡ place + 8 * length entry.orderings
  pub same : (runs : List TaskRun) → DoneAll dones runs → judged runs place (group_at m b place end) ≡ judged runs from (group_at m b from end)
  pub passed : (runs : List TaskRun) → DoneAll dones runs → unmet_in runs place (group_at m b place end) ≡ unmet_in runs from (group_at m b from end)

-- the same for some group
pub record InGroup (b dones : List ℕ) (place at : ℕ) : Type 0 where
  pub limits : Limits
  pub from : ℕ
  pub end : ℕ
  pub ahead : Ahead limits b dones from end place at

-- a group's first unmet ordering, by the accesses done
abbrev pub Holds : Limits → List ℕ → List ℕ → ℕ → ℕ → Unmet → Type 0
Holds m b dones from end u = (runs : List TaskRun) → dones_of runs ≡ dones → u ≡ unmet_in runs from (group_at m b from end)

-- an offset that the scan has reached: the orderings before it are met, and the one there, if any, is not
pub record Reached (m : Limits) (b dones : List ℕ) (from end place at : ℕ) : Type 0 where
  pub holds : Holds m b dones from end (unmet_at b place at)
  pub ahead : Ahead m b dones from end place at
  pub held : place < at → Looks dones from (group_at m b from end) (Ok None)

-- how far the scan gets from an offset in any group that it has checked up to there
abbrev pub Scanned : List ℕ → List ℕ → ℕ → ℕ → ℕ → Type 0
Scanned b dones scan at place = (m : Limits) (from end : ℕ) → Ahead m b dones from end scan at → Reached m b dones from end place at

-- the result of looking at a group: what is next, the ordering that holds it up, and how far the scan got
pub record Looked (m : Limits) (b dones : List ℕ) (from end : ℕ) (k : Look) : Type 0 where
  pub looks : Looks dones from (group_at m b from end) k.next
  pub holds : Holds m b dones from end (unmet_at b k.scan k.at)
  pub judged_to : 0 < k.at → Ahead m b dones from end k.scan k.at
