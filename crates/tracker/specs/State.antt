-- The recorder's state (document 01, "Tasks, objects, positions"): what is kept for each task and for each cell.
use Rattle.std.specs.Prelude.{ℕ, get_or, replicate}
use Rattle.codec.specs.declared.Position.{Position}
use Rattle.codec.specs.Cell.{cells_of}
use Rattle.codec.specs.Limit.{max_tasks, max_cells}
use Rattle.tracker.specs.declared.Locality.{Locality}
use Rattle.tracker.specs.declared.Locality.TheVariants.{WriteExclusive, ReadExclusive, ReadShared}
use Rattle.tracker.specs.declared.CellRecord.{CellRecord}
use Rattle.tracker.specs.declared.State.{State}

-- Done(S): how many accesses S has made
abbrev pub done_of : State → ℕ → ℕ
done_of s task = get_or s.done task 0

-- Seen(S): a share number
abbrev pub seen_of : State → ℕ → ℕ
seen_of s task = get_or s.seen task 0

-- Took(S): the number of S's latest access by row 8
abbrev pub took_of : State → ℕ → ℕ
took_of s task = get_or s.took task 0

-- how many cells there are: N times F
abbrev pub cell_count : State → ℕ
cell_count s = cells_of s.fields s.objects

-- a cell that one task holds for writing
abbrev pub owned : ℕ → CellRecord
owned task = record { locality = WriteExclusive task }

-- a cell's state
abbrev pub locality_of : State → ℕ → Locality
locality_of s cell = (get_or s.cells cell (owned 0)).locality

-- T1 in the table: the task that holds a cell alone, 0 for a shared one
abbrev pub holder_of : Locality → ℕ
holder_of (WriteExclusive task) = task
holder_of (ReadExclusive task) = task
holder_of (ReadShared share) = 0

-- c in the table: the share number of a shared cell, 0 for any other
abbrev pub share_of : Locality → ℕ
share_of (WriteExclusive task) = 0
share_of (ReadExclusive task) = 0
share_of (ReadShared share) = share

-- the position (S, s), and the one that means none
abbrev pub position : ℕ → ℕ → Position
position task number = record { task = task; number = number }

abbrev pub nowhere : Position
nowhere = position 0 0

-- (S, Done(S)) and (S, Took(S))
abbrev pub done_at : State → ℕ → Position
done_at s task = position task (done_of s task)

abbrev pub took_at : State → ℕ → Position
took_at s task = position task (took_of s task)

-- the blank state, all zero
abbrev pub blank_state : State
blank_state = record {
  tasks = 0;
  objects = 0;
  fields = 0;
  cells = replicate max_cells (owned 0);
  done = replicate max_tasks 0;
  seen = replicate max_tasks 0;
  took = replicate max_tasks 0;
  shares = 0;
  last = nowhere;
}
