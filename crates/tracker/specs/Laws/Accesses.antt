-- An accepted access (document 01, "Whole runs"): what it adds to the history and does to memory. The value argument of a read is
-- ignored.
use Rattle.std.specs.Prelude.{Bool, true, false, cond, ℕ, eqb}
use Rattle.history.specs.Entry.{Act, Entry}
use Rattle.tracker.specs.Orderings.{written_of}
use Rattle.tracker.specs.declared.State.{State}

-- a write stores its value, and a read returns its cell's value
abbrev pub act_of : ℕ → Bool → ℕ → ℕ → Act
act_of cell true value held = Act.write cell value
act_of cell false value held = Act.read cell held

-- the entry of an access: its act, and the orderings that the table writes
abbrev pub tracked_entry : State → ℕ → ℕ → Bool → ℕ → ℕ → Entry
tracked_entry s task cell write value held = record {
  task = task;
  act = act_of cell write value held;
  orderings = written_of s task cell write;
}

-- memory, by cell, after an access: a write sets its cell's value
abbrev pub memory_after : (ℕ → ℕ) → ℕ → Bool → ℕ → ℕ → ℕ
memory_after memory cell true value c = cond (eqb cell c) value (memory c)
memory_after memory cell false value c = memory c
