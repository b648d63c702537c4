-- The table row by row (document 01, "Transition table"): the access comes after every earlier one it conflicts with, and its cell
-- stays covered. The other cells are in Moves.
use Rattle.std.specs.Prelude.{Bool, ◌≡◌, ℕ, ◌+◌, ◌<◌}
use Rattle.std.proofs.Math.Bool.{true, false}
use mathlib.Core.List.{◌∷◌, Memᴰ}
use Rattle.std.proofs.Math.Path.{refl}
use Rattle.std.proofs.Common.{arith}
use Rattle.std.proofs.Math.Decide.{ℕ_discrete}
use Rattle.codec.specs.declared.Position.{Position}
use Rattle.history.specs.Entry.{Act, Entry, touches, writes}
use Rattle.history.proofs.Laws.Entry.{writes-touches}
use Rattle.history.specs.History.{History, count}
use Rattle.history.proofs.Laws.History.{at_lt}
use Rattle.history.specs.Laws.Sound.{Follows}
use Rattle.tracker.specs.State.{done_of, seen_of, done_at, took_at}
use Rattle.tracker.specs.Laws.View.{View, one, two, three, four, five, six, seven, eight, nine, ten}
use Rattle.tracker.specs.Orderings.{orderings_of}
use Rattle.tracker.proofs.Laws.Written.{every_has}
use Rattle.tracker.specs.Next.{locality_after, unchanged, effect_of}
use Rattle.tracker.specs.Laws.Covers.{Awaits}
use Rattle.tracker.proofs.Laws.Covers.{covers_more, covers_own, follows_covered, follows_fewer, awaits_own}
use Rattle.tracker.specs.Laws.Covered.{Covered, write_exclusive, read_exclusive, read_shared}
use Rattle.tracker.specs.Laws.Moves.{Moves, seen-stays, seen_moves, last-stays, last_moves}
use Rattle.tracker.proofs.Laws.Moves.{done_covers, shared_stays}
use Rattle.tracker.specs.Laws.Effects.{Leaves}
use Rattle.tracker.proofs.Laws.Effects.{moves, plain_moves}
use Rattle.tracker.specs.Laws.Invariant.{Invariant}
use Rattle.tracker.specs.declared.Locality.{Locality}
use Rattle.tracker.specs.declared.Locality.TheVariants.{WriteExclusive}
use Rattle.tracker.specs.declared.Row.{Row}
use Rattle.tracker.specs.declared.State.{State}
use Rattle.tracker.specs.Laws.EachRow.{RowKeeps, conflicting}

follows_any : {e : Entry} {h : History} (write : Bool) (cell : ℕ) → Follows e h (touches cell) → Follows e h (conflicting write cell)
follows_any true cell f = f
follows_any false cell f = follows_fewer (writes-touches cell) f

module _ (e : Entry) (h : History) (s after : State) (cell : ℕ) (i : Invariant s h) (low : e.task < s.tasks) where
  -- Done before the access
  number : done_of s e.task ≡ count e.task h
  number = i.counts e.task

  awaits_mine : Awaits e h (done_at s e.task)
  awaits_mine = awaits_own e h (done_at s e.task) refl (omega (arith, number))

  -- afterwards the accessing task holds the cell alone, for writing: rows 1, 4, 7, 9 and 10
  to_writer : (write : Bool) → Leaves s e.task (unchanged s e.task) after → Follows e h (touches cell)
      → RowKeeps e h s after cell write (WriteExclusive e.task)
  to_writer write k f =
      let m : Moves e h s after = plain_moves k number in
      record { follows = follows_any write cell f; moves = m; covered = write_exclusive (done_covers m f) }

  -- row 10: the entry is ordered after everything that every task has done, so it comes after every entry
  follows_every : ((task : ℕ) → task < s.tasks → Awaits e h (done_at s task)) → Follows e h (touches cell)
  follows_every awaits = record {
    has = λ {d} {f} {k} closed inside a t. omega (arith, (awaits f.task (i.tasks_low a)).reached closed inside, i.counts f.task, at_lt f.task a refl);
  }

  -- From what the cell's state covers, what the row leaves, and that the access is ordered after every ordering of the row.
  pub row_keeps : {l : Locality} {write : Bool} {row : Row} → View e.task (seen_of s e.task) l write row → Covered h s cell l
      → Leaves s e.task (effect_of row s e.task l) after → ((p : Position) → Memᴰ p (orderings_of row s l) → Awaits e h p)
      → (write ≡ false → writes cell e.act ≡ false) → RowKeeps e h s after cell write (locality_after row s e.task l)
  unfolding orderings_of locality_after effect_of
  row_keeps (one write) (write_exclusive all) k awaits reads = to_writer write k (follows_covered awaits_mine all)
  row_keeps two (read_exclusive took all) k awaits reads =
      let m : Moves e h s after = plain_moves k number in
      let f : Follows e h (touches cell) = follows_covered awaits_mine all in
      record {
        follows = follows_any false cell f;
        moves = m;
        covered = read_exclusive (covers_more e (took_at after e.task) (reads refl) refl (m.took e.task) took) (done_covers m f);
      }
  row_keeps (three share seen-high) (read_shared last seen) k awaits reads =
      let m : Moves e h s after = plain_moves k number in
      record {
        follows = follows_covered awaits_mine (seen e.task low seen-high);
        moves = m;
        covered = shared_stays m cell (reads refl) (read_shared last seen);
      }
  row_keeps four (read_exclusive took all) k awaits reads = to_writer true k (follows_covered awaits_mine all)
  row_keeps (five holder other) (read_exclusive took all) k awaits reads =
      let awaits-last : Awaits e h s.last = awaits s.last (Memᴰ.tail (Memᴰ.head refl)) in
      let f : Follows e h (writes cell) = follows_covered (awaits (took_at s holder) (Memᴰ.head refl)) took in
      let own : after.last.task ≡ e.task = rw k.last in
      let newer : count e.task h < after.last.number = rw k.last (omega (arith, number)) in
      let m : Moves e h s after = moves k number (omega arith) (seen_moves refl awaits-last) (last_moves own newer awaits-last) in
      record {
        follows = f;
        moves = m;
        covered = read_shared {share = s.shares + 1} (covers_own after.last own newer f) (λ task task_low high. elim (ℕ_discrete task e.task) [
          | yes p ↦ rw p (done_covers m f)
          | no p ↦ absurd (omega (arith, k.other_seen task p, (i.sound.task task (rw k.tasks at task_low)).seen_low))
        ]);
      }
  row_keeps (six share seen_low) (read_shared last seen) k awaits reads =
      let awaits-last : Awaits e h s.last = awaits s.last (Memᴰ.head refl) in
      let m : Moves e h s after = moves k number (omega arith) (seen_moves refl awaits-last) (last-stays k.last) in
      record {
        follows = follows_covered awaits-last last;
        moves = m;
        covered = shared_stays m cell (reads refl) (read_shared last seen);
      }
  row_keeps (seven holder other) (write_exclusive all) k awaits reads = to_writer true k (follows_covered (awaits (done_at s holder) (Memᴰ.head refl)) all)
  row_keeps (eight holder other) (write_exclusive all) k awaits reads =
      let f : Follows e h (touches cell) = follows_covered (awaits (done_at s holder) (Memᴰ.head refl)) all in
      let m : Moves e h s after = moves k number (omega (arith, (i.sound.task e.task low).took_low)) (seen-stays k.seen) (last-stays k.last) in
      record {
        follows = follows_any false cell f;
        moves = m;
        covered = read_exclusive (covers_own (took_at after e.task) refl (omega (arith, number, k.took)) (follows_any false cell f)) (done_covers m f);
      }
  row_keeps (nine holder other) (read_exclusive took all) k awaits reads = to_writer true k (follows_covered (awaits (done_at s holder) (Memᴰ.head refl)) all)
  row_keeps (ten share) c k awaits reads = to_writer true k (follows_every (λ task task_low. awaits (done_at s task) (every_has s.done s.tasks task task_low)))
