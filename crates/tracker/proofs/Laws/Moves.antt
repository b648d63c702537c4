-- What an access may do to Done, Seen, Took and Last (document 01, "other effects") so that other cells stay covered. It is stated for
-- any entry and any two states, so it also applies to an entry that touches no cell.
use Rattle.std.specs.Prelude.{◌≡◌, refl, ◌∷◌, Bool, false, ℕ, ◌≤◌, ◌<◌}
use Rattle.std.proofs.Common.{arith}
use Rattle.history.specs.Entry.{Act, Entry, touches, writes}
use Rattle.history.proofs.Laws.Entry.{untouched_unwritten}
use Rattle.history.specs.History.{History, count}
use Rattle.history.specs.Laws.Sound.{Follows}
use Rattle.tracker.specs.State.{done_of, seen_of, took_of, done_at, took_at}
use Rattle.tracker.specs.Laws.Covers.{Covers, Awaits}
use Rattle.tracker.proofs.Laws.Covers.{covers_more, covers_own, follows_covered}
use Rattle.tracker.specs.Laws.Covered.{Covered, write_exclusive, read_exclusive, read_shared}
use Rattle.tracker.specs.declared.Locality.{Locality}
use Rattle.tracker.specs.declared.Locality.TheVariants.{ReadShared}
use Rattle.tracker.specs.declared.State.{State}
use Rattle.tracker.specs.Laws.Moves.{Moves, last-stays, last_moves, seen-stays, seen_moves}

-- the accessing task's Done covers everything its access comes after, and the access itself
pub done_covers : {e : Entry} {h : History} {s after : State} {test : Act → Bool} → Moves e h s after → Follows e h test
    → Covers (e ∷ h) (done_at after e.task) test
done_covers {e} {after} m f = covers_own (done_at after e.task) refl m.done_own f

module _ {e : Entry} {h : History} {s after : State} (m : Moves e h s after) (cell : ℕ) where
  -- a shared cell that is not written stays covered, though it may be read
  pub shared_stays : {share : ℕ} → writes cell e.act ≡ false → Covered h s cell (ReadShared share) → Covered (e ∷ h) after cell (ReadShared share)
  shared_stays {share} w (read_shared last seen) = read_shared last-after seen-after
    where
      follows : Awaits e h s.last → Follows e h (writes cell)
      follows awaits = follows_covered awaits last

      last-after : Covers (e ∷ h) after.last (writes cell)
      last-after = elim m.last [
        | last-stays p ↦ rw p (covers_more e s.last w refl (omega arith) last)
        | last_moves own newer awaits ↦ covers_own after.last own newer (follows awaits)
      ]

      seen-after : (task : ℕ) → task < after.tasks → share ≤ seen_of after task → Covers (e ∷ h) (done_at after task) (writes cell)
      seen-after task low high = elim (m.seen task) [
        | seen-stays p ↦ covers_more e (done_at after task) w refl (m.done task) (seen task (rw m.tasks at low) (rw p at high))
        | seen_moves p awaits ↦ rw p (done_covers m (follows awaits))
      ]

  -- a cell that is not touched stays covered
  pub untouched_stays : {l : Locality} → touches cell e.act ≡ false → Covered h s cell l → Covered (e ∷ h) after cell l
  untouched_stays t (write_exclusive {holder} all) = write_exclusive (covers_more e (done_at after holder) t refl (m.done holder) all)
  untouched_stays t (read_exclusive {holder} took all) =
      read_exclusive
      (covers_more e (took_at after holder) (untouched_unwritten cell e.act t) refl (m.took holder) took)
      (covers_more e (done_at after holder) t refl (m.done holder) all)
  untouched_stays t (read_shared last seen) = shared_stays (untouched_unwritten cell e.act t) (read_shared last seen)
