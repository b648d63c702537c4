-- EVERY LIST OF ACCEPTED ACCESSES FROM AN OPENING MAKES A SOUND HISTORY (document 01, "Transition table", "Whole runs"). `Tracks` says
-- which state, memory and history accepted accesses lead to, one access at a time; the theorems hold for all of them.
use Rattle.std.specs.Prelude.{Bool, true, false, List, [], ◌∷◌, ◌≡◌, ℕ, ◌<◌}
use Rattle.std.proofs.Common.{sym, ◌∙◌, arith}
use Rattle.history.specs.Entry.{Act, Entry}
use Rattle.history.specs.History.{History, count, At}
use Rattle.history.proofs.Laws.History.{count_none, at-nil}
use Rattle.history.specs.Memory.{reference}
use Rattle.history.proofs.Laws.Memory.{reference-none}
use Rattle.history.specs.Sound.{Sound as SoundHistory}
use Rattle.history.proofs.Laws.Sound.{sound_none, sound_more}
use Rattle.tracker.specs.State.{done_of}
use Rattle.tracker.specs.Next.{state_after}
use Rattle.tracker.specs.Laws.Opened.{Fresh}
use Rattle.tracker.specs.Laws.Kept.{Accepts}
use Rattle.tracker.proofs.Laws.Covers.{covers_none}
use Rattle.tracker.specs.Laws.Covered.{write_exclusive}
use Rattle.tracker.specs.Laws.Invariant.{Invariant}
use Rattle.tracker.specs.Laws.Accesses.{act_of, tracked_entry, memory_after}
use Rattle.tracker.proofs.Laws.OneAccess.{access_points_back, access_follows, access_keeps}
use Rattle.tracker.specs.declared.State.{State}
use Rattle.tracker.specs.Laws.Tracks.{Tracks, tracks_more, tracks_opened}

-- the invariant holds at the opening, and one accepted access keeps it
pub tracks_invariant : {start : ℕ → ℕ} {s : State} {memory : ℕ → ℕ} {h : History} → Tracks start s memory h → Invariant s h
tracks_invariant (tracks_opened f) = record {
  shaped = f.shaped;
  sound = f.sound;
  counts = λ task. f.none_done task ∙ sym (count_none task);
  tasks_low = λ a. absurd (at-nil a);
  covered = λ cell low. rw (f.held cell low) (write_exclusive (covers_none _ _));
}
tracks_invariant (tracks_more {s = s} {memory = memory} task cell write value t a) =
    access_keeps s task cell write value (memory cell) (tracks_invariant t) a

-- memories that agree before an access agree after it
reference-after : (start : ℕ → ℕ) (h : History) (s : State) (memory : ℕ → ℕ) (task cell : ℕ) (write : Bool) (value : ℕ) (c : ℕ)
    → memory c ≡ reference start h c
    → memory_after memory cell write value c ≡ reference start (tracked_entry s task cell write value (memory cell) ∷ h) c
unfolding reference
reference-after start h s memory task cell true value c same = rw same
reference-after start h s memory task cell false value c same = same

-- the memory is the history's reference memory
pub tracks_memory : {start : ℕ → ℕ} {s : State} {memory : ℕ → ℕ} {h : History} → Tracks start s memory h → (c : ℕ) → memory c ≡ reference start h c
tracks_memory {start} (tracks_opened f) c = sym (reference-none start c)
tracks_memory {start} (tracks_more {s = s} {memory = memory} {h = h} task cell write value t a) c =
    reference-after start h s memory task cell write value c (tracks_memory t c)

-- a read's entry has the value of its cell
read-holds : (cell : ℕ) (write : Bool) (value held c v : ℕ) (memory : ℕ → ℕ) → held ≡ memory cell → act_of cell write value held ≡ Act.read c v → v ≡ memory c
read-holds cell true value held c v memory same p = absurd (let z : ◌≡◌ {A = ℕ} 0 1 = cc in omega arith)
read-holds cell false value held c v memory same p = cc

-- the history is sound
pub tracks_sound : {start : ℕ → ℕ} {s : State} {memory : ℕ → ℕ} {h : History} → Tracks start s memory h → SoundHistory start h
tracks_sound {start} (tracks_opened f) = sound_none start
tracks_sound {start} (tracks_more {s = s} {memory = memory} {h = h} task cell write value t a) =
    let i : Invariant s h = tracks_invariant t in
    sound_more (tracks_sound t) (access_points_back s task cell write value (memory cell) i a) (access_follows s task cell write value (memory cell) i a)
    (λ c v p. read-holds cell write value (memory cell) c v (reference start h) (tracks_memory t cell) p)

module _ {start : ℕ → ℕ} {s : State} {memory : ℕ → ℕ} {h : History} (t : Tracks start s memory h) where
  -- Done(S) is the number of S's entries
  pub tracks_done : (task : ℕ) → done_of s task ≡ count task h
  tracks_done = (tracks_invariant t).counts

  -- every entry is of a task below T
  pub tracks_tasks : {e : Entry} {g : History} → At e g h → e.task < s.tasks
  tracks_tasks = (tracks_invariant t).tasks_low
