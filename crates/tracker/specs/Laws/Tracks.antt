-- EVERY LIST OF ACCEPTED ACCESSES FROM AN OPENING MAKES A SOUND HISTORY (document 01, "Transition table", "Whole runs"). `Tracks` says
-- which state, memory and history accepted accesses lead to, one access at a time; the theorems hold for all of them.
use Rattle.std.specs.Prelude.{Bool, [], ◌∷◌, ◌≡◌, ℕ, ◌<◌}
use Rattle.std.proofs.Common.{◌∙◌}
use Rattle.history.specs.History.{History}
use Rattle.tracker.specs.Next.{state_after}
use Rattle.tracker.specs.Laws.Opened.{Fresh}
use Rattle.tracker.specs.Laws.Kept.{Accepts}
use Rattle.tracker.specs.Laws.Accesses.{tracked_entry, memory_after}
use Rattle.tracker.specs.declared.State.{State}

-- from a state in which nothing had been done, as an opened one, and these starting values, accepted accesses led to this state, memory
-- by cell, and history. How the cells are numbered, and which task held which at first, makes no difference.
pub data Tracks (start : ℕ → ℕ) : State → (ℕ → ℕ) → History → Type 0 where
  tracks_opened : {s : State} → Fresh s → Tracks start s start []
  tracks_more : {s : State} {memory : ℕ → ℕ} {h : History} (task cell : ℕ) (write : Bool) (value : ℕ) → Tracks start s memory h → Accepts s task cell
      → Tracks start (state_after s task cell write) (memory_after memory cell write value) (tracked_entry s task cell write value (memory cell) ∷ h)
