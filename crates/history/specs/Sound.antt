-- Sound histories: what a recorder has to ensure, and all that the replay theorem needs. The transition table of document 01 is one way
-- to ensure it; this crate does not mention tables.
use Rattle.std.specs.Prelude.{◌≡◌, true, ℕ}
use Rattle.history.specs.Entry.{Entry, read, conflicts}
use Rattle.history.specs.History.{History, count, At}
use Rattle.history.specs.Closed.{In, Met, Closed}
use Rattle.history.specs.Memory.{reference}

pub record Sound (start : ℕ → ℕ) (h : History) : Type 0 where
  -- (A) every ordering points back: the accesses it names had been done when the box made the entry
  pub points_back : {e : Entry} {g : History} → At e g h → Met (λ t. count t g) e.orderings
  -- (B) closed counts that contain an entry also contain every earlier entry it conflicts with: the same cell, and one of the two a write
  pub comes_after : {later earlier : Entry} {k g : History} {d : ℕ → ℕ} → At later k h → At earlier g k
      → conflicts later.act earlier.act ≡ true → Closed d h → In d later k → In d earlier g
  -- (C) every read returned the value last written to its cell, or the starting value
  pub reads_last : {e : Entry} {g : History} (c v : ℕ) → At e g h → e.act ≡ read c v → v ≡ reference start g c
