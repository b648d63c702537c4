-- One accepted access (document 01, "Transition table"): its entry points back, it comes after every earlier entry it conflicts with, and
-- the invariant holds afterwards, for its own cell and for the others.
use Rattle.std.specs.Prelude.{Bool, true, false, ◌≡◌, refl, ℕ, ◌≤◌, ◌<◌, eqb}
use mathlib.Core.List.{List, ◌∷◌, Memᴰ}
use Rattle.std.proofs.Common.{sym, ◌∙◌, arith, ne_eqb}
use Rattle.std.proofs.Math.Decide.{ℕ_discrete}
use Rattle.codec.specs.declared.Position.{Position}
use Rattle.codec.specs.Laws.Decide.{never}
use Rattle.codec.specs.Limit.{max_tasks}
use Rattle.history.specs.Entry.{Act, Entry, touches, writes, conflicts}
use Rattle.history.specs.History.{History, count, At, here, there}
use Rattle.history.proofs.Laws.History.{count-own, count-other}
use Rattle.history.specs.Closed.{Met}
use Rattle.history.specs.Laws.Sound.{Follows}
use Rattle.tracker.specs.State.{done_of, seen_of, cell_count, locality_of}
use Rattle.tracker.specs.Row.{row_at}
use Rattle.tracker.proofs.Laws.View.{view}
use Rattle.tracker.specs.Orderings.{orderings_of}
use Rattle.tracker.specs.Next.{locality_after, state_after}
use Rattle.tracker.proofs.Laws.After.{next-tasks, next_cells, next_shaped, next-done, next_locality, other_done, other_locality}
use Rattle.tracker.proofs.Laws.Facts.{cells_fit}
use Rattle.tracker.specs.Laws.Kept.{Accepts}
use Rattle.tracker.proofs.Laws.Kept.{next_facts}
use Rattle.tracker.proofs.Laws.Named.{row_points}
use Rattle.tracker.proofs.Laws.Covers.{follows_fewer}
use Rattle.tracker.proofs.Laws.Implied.{met-from, full_implies_written, awaits_full}
use Rattle.tracker.specs.Laws.Covered.{Covered}
use Rattle.tracker.proofs.Laws.Moves.{untouched_stays}
use Rattle.tracker.proofs.Laws.Effects.{next_leaves}
use Rattle.tracker.specs.Laws.Invariant.{Invariant}
use Rattle.tracker.specs.Laws.EachRow.{conflicting, RowKeeps}
use Rattle.tracker.proofs.Laws.EachRow.{row_keeps}
use Rattle.tracker.specs.Laws.Accesses.{act_of, tracked_entry}
use Rattle.tracker.specs.declared.State.{State}

-- an access touches only its cell, writes only if it is a write, and conflicts by its sort
touches-own : (cell : ℕ) (write : Bool) (value held c : ℕ) → touches c (act_of cell write value held) ≡ eqb cell c
touches-own cell true value held c = refl
touches-own cell false value held c = refl

read-writes-none : (cell : ℕ) (write : Bool) (value held c : ℕ) → write ≡ false → writes c (act_of cell write value held) ≡ false
read-writes-none cell true value held c e = absurd (never true refl e)
read-writes-none cell false value held c e = refl

conflicts_as : (cell : ℕ) (write : Bool) (value held : ℕ) (a : Act) → conflicts (act_of cell write value held) a ≡ true → conflicting write cell a ≡ true
conflicts_as cell true value held a p = p
conflicts_as cell false value held a p = p

module _ (s : State) (task cell : ℕ) (write : Bool) (value held : ℕ) where
  abbrev entry : Entry
  entry = tracked_entry s task cell write value held

  abbrev after : State
  after = state_after s task cell write

  -- the row's orderings, written or not
  abbrev full : List Position
  full = orderings_of (row_at s task cell write) s (locality_of s cell)

  module _ {h : History} (i : Invariant s h) (a : Accepts s task cell) where
    task-fits : task < max_tasks
    task-fits = omega (arith, a.task_low, i.sound.tasks_fit)

    -- they were met when the access was made
    full_back : Met (λ t. count t h) full
    full_back = met-from (λ t. count t h) full each
      where
        each : (p : Position) → Memᴰ p full → p.number ≤ count p.task h
        each p m =
            let holder_low = (i.sound.cell cell a.cell_low).holder_low in
            omega (arith, (row_points s i.sound (locality_of s cell) holder_low (row_at s task cell write) p m).reached, i.counts p.task)

    pub access_points_back : Met (λ t. count t h) entry.orderings
    access_points_back = full_implies_written (λ t. count t h) task full full_back

    by_row : RowKeeps entry h s after cell write (locality_after (row_at s task cell write) s task (locality_of s cell))
    by_row =
        row_keeps entry h s after cell i a.task_low (view (locality_of s cell) task (seen_of s task) write) (i.covered cell a.cell_low)
        (next_leaves s task cell write i.shaped task-fits) (awaits_full entry h full refl full_back) (read-writes-none cell write value held cell)

    pub access_follows : Follows entry h (conflicts entry.act)
    access_follows = follows_fewer (conflicts_as cell write value held) by_row.follows

    counts-after : (t : ℕ) → done_of after t ≡ count t (entry ∷ h)
    counts-after t = elim (ℕ_discrete t task) [
      | yes p ↦ rw p (omega (arith, next-done s task cell write i.shaped task-fits, i.counts task, count-own task entry h refl))
      | no p ↦ omega (arith, other_done s task cell write t p, i.counts t, count-other t entry h (λ q. p (sym q)))
    ]

    tasks-after : {e : Entry} {g : History} → At e g (entry ∷ h) → e.task < after.tasks
    tasks-after here = rw (next-tasks s task cell write) a.task_low
    tasks-after (there b) = rw (next-tasks s task cell write) (i.tasks_low b)

    -- the access's own cell by its row, and the others because it does not touch them
    covered_after : (other : ℕ) → other < cell_count s → Covered (entry ∷ h) after other (locality_of after other)
    covered_after other low = elim (ℕ_discrete other cell) [
      | yes p ↦ rw (p, next_locality s task cell write i.shaped (omega (arith, a.cell_low, cells_fit s i.sound))) by_row.covered
      | no p ↦
          let untouched : touches other entry.act ≡ false = touches-own cell write value held other ∙ ne_eqb cell other (λ q. p (sym q)) in
          rw (other_locality s task cell write other p) (untouched_stays by_row.moves other untouched (i.covered other low))
    ]

    pub access_keeps : Invariant after (entry ∷ h)
    access_keeps = record {
      shaped = next_shaped s task cell write i.shaped;
      sound = next_facts s task cell write i.shaped i.sound a;
      counts = counts-after;
      tasks_low = tasks-after;
      covered = λ other low. covered_after other (rw (next_cells s task cell write) at low);
    }
