-- One access on the box, by its number: an accepted one leaves what the table says, a refused one changes nothing.
use Rattle.std.specs.Prelude.{true, false, cond, ◌≡◌, eqb, get_or}
use mathlib.Core.List.{[], ◌++◌}
use Prim.Native.Nat.{ℕ, ◌<◌}
use Rattle.entries.specs.Recording.{Entry as FileEntry}
use Rattle.entries.specs.Bytes.{entry_bytes}
use Rattle.history.specs.Entry.{Entry}
use Rattle.tracker.specs.Laws.Accesses.{tracked_entry}
use Rattle.tracker.specs.Next.{state_after}
use Rattle.recorder.specs.AccessOf.{is_write, accepted, value_after, memory_after, written_entry}
use Rattle.recorder.proofs.Laws.Accepted.{Takes}
use Rattle.recorder.specs.WholeRun.{AccessCall, Box, outcome, called}
use Rattle.fidelity.specs.Box.{accepts, recorded_entry, cell_by}

-- the value that an accepted call answers, what it writes, and its entry
abbrev pub given_by : Box → AccessCall → ℕ
given_by b c = value_after (is_write c.sort) (cell_by b c) c.value b.memory

abbrev pub file_entry : Box → AccessCall → FileEntry
file_entry b c = written_entry b.state c.task c.object c.field (is_write c.sort) (given_by b c)

abbrev pub history_entry : Box → AccessCall → Entry
history_entry b c = tracked_entry b.state c.task (cell_by b c) (is_write c.sort) c.value (get_or b.memory (cell_by b c) 0)

-- the box after an accepted call
abbrev pub box_after : Box → AccessCall → Box
box_after b c = record {
  state = state_after b.state c.task (cell_by b c) (is_write c.sort);
  memory = memory_after (is_write c.sort) (cell_by b c) c.value b.memory;
  logs = λ t. cond (eqb c.task t) (b.logs t ++ entry_bytes (file_entry b c)) (b.logs t);
}

pub data Turn (b : Box) (c : AccessCall) : Type 0 where
  taken_turn : Takes b.state c.task c.object c.field c.sort c.value b.memory c.out → accepts b c ≡ true
      → (outcome b c).answer.value ≡ given_by b c
      → recorded_entry b c ≡ history_entry b c → called b c ≡ box_after b c → Turn b c
  turned_away : accepts b c ≡ false → (outcome b c).answer.value ≡ 0 → called b c ≡ b → Turn b c
