-- The invariant for one cell: which positions cover its accesses, by its state (document 01, "Tasks, objects, positions").
use Rattle.std.specs.Prelude.{ℕ, ◌≤◌, ◌<◌}
use Rattle.history.specs.Entry.{touches, writes}
use Rattle.history.specs.History.{History}
use Rattle.tracker.specs.State.{seen_of, done_at, took_at}
use Rattle.tracker.specs.Laws.Covers.{Covers}
use Rattle.tracker.specs.declared.Locality.{Locality}
use Rattle.tracker.specs.declared.Locality.TheVariants.{WriteExclusive, ReadExclusive, ReadShared}
use Rattle.tracker.specs.declared.State.{State}

-- That a share number is 1 to G is part of the state's soundness and not repeated here.
pub data Covered (h : History) (s : State) (cell : ℕ) : Locality → Type 0 where
  -- Write-exclusive: the holder got it by an access that came after all others on the cell, and nobody else has accessed it since. So
  -- its Done covers every access.
  write_exclusive : {holder : ℕ} → Covers h (done_at s holder) (touches cell) → Covered h s cell (WriteExclusive holder)
  -- Read-exclusive: the holder took the cell by a read that came after all others on it. Nobody has written since, so its Took, which
  -- is that read or a later one, covers the writes; nobody else has read since, so its Done covers every access.
  read_exclusive : {holder : ℕ} → Covers h (took_at s holder) (writes cell) → Covers h (done_at s holder) (touches cell)
      → Covered h s cell (ReadExclusive holder)
  -- Shared c: the read that made share c was ordered after the holder's Took, which covered the writes, and nobody has written since.
  -- Each share is ordered after the one before it, so Last covers the writes too. A task whose Seen is c or more made that share or a
  -- later one (row 5), or was ordered after Last when G was c or more (row 6), so its Done covers the writes.
  read_shared : {share : ℕ} → Covers h s.last (writes cell)
      → ((task : ℕ) → task < s.tasks → share ≤ seen_of s task → Covers h (done_at s task) (writes cell))
      → Covered h s cell (ReadShared share)
