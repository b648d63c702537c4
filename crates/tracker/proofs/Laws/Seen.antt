-- Laws of Seen. A task that has seen a cell's share reads the cell by row 3 until somebody writes it: Seen never falls, and a cell
-- that is only read stays in its share. After row 5 or 6 its task has seen every share made so far (document 02, F-1).
use Rattle.std.specs.Prelude.{Bool, true, false, ◌≡◌, refl, ℕ, ◌≤◌, ◌<◌, leb}
use Rattle.std.proofs.Common.{◌∙◌, arith, le-leb}
use Rattle.std.proofs.Math.Decide.{ℕ_discrete}
use Rattle.codec.specs.Laws.Decide.{passes, fails, split}
use Rattle.codec.specs.Limit.{max_tasks, max_cells}
use Rattle.tracker.specs.State.{seen_of, cell_count, locality_of}
use Rattle.tracker.specs.Row.{row_of, row_at}
use Rattle.tracker.specs.Next.{locality_after, effect_of, state_after}
use Rattle.tracker.specs.Laws.State.{Shaped}
use Rattle.tracker.specs.Laws.View.{View, one, two, three, four, five, six, seven, eight, nine, ten}
use Rattle.tracker.proofs.Laws.View.{view}
use Rattle.tracker.proofs.Laws.After.{next_cells, next_locality, next-seen, next-shares, other_seen, other_locality}
use Rattle.tracker.specs.Laws.Facts.{Sound}
use Rattle.tracker.proofs.Laws.Facts.{cells_fit}
use Rattle.tracker.specs.Laws.Kept.{Accepts}
use Rattle.tracker.proofs.Laws.Kept.{next_facts}
use Rattle.tracker.specs.declared.Locality.{Locality}
use Rattle.tracker.specs.declared.Locality.TheVariants.{ReadShared}
use Rattle.tracker.specs.declared.Row.{Row}
use Rattle.tracker.specs.declared.Row.TheVariants.{Three, Five, Six}
use Rattle.tracker.specs.declared.State.{State}
use Rattle.tracker.specs.Laws.Seen.{Newest, Sees, newest_five, newest_six}

pub sees_three : (s : State) (task cell : ℕ) → Sees s task cell → row_at s task cell false ≡ Three
unfolding row_of
sees_three s task cell k = rw (k.shared, le-leb k.share (seen_of s task) k.seen)

-- no row lowers Seen
row_rises : {l : Locality} {write : Bool} {row : Row} (s : State) (task : ℕ) → View task (seen_of s task) l write row → seen_of s task ≤ s.shares
    → seen_of s task ≤ (effect_of row s task l).seen
unfolding effect_of
row_rises s task (one write) h = omega arith
row_rises s task two h = omega arith
row_rises s task (three share k) h = omega arith
row_rises s task four h = omega arith
row_rises s task (five holder k) h = omega arith
row_rises s task (six share k) h = omega arith
row_rises s task (seven holder k) h = omega arith
row_rises s task (eight holder k) h = omega arith
row_rises s task (nine holder k) h = omega arith
row_rises s task (ten share) h = omega arith

-- a read leaves a shared cell in its share
read_stays : (s : State) (task share seen : ℕ) → locality_after (row_of (ReadShared share) task seen false) s task (ReadShared share) ≡ ReadShared share
unfolding row_of locality_after
read_stays s task share seen = elim (split (leb share seen)) [
  | passes p ↦ rw p
  | fails p ↦ rw p
]

-- row 5 to the G that it makes
newest_seen : {row : Row} (s : State) (task : ℕ) (l : Locality) → Newest row → (effect_of row s task l).seen ≡ (effect_of row s task l).shares
unfolding effect_of
newest_seen s task l newest_five = refl
newest_seen s task l newest_six = refl

module _ (s : State) (task cell : ℕ) (write : Bool) (shaped : Shaped s) (sound : Sound s) (a : Accepts s task cell) where
  abbrev after : State
  after = state_after s task cell write

  task-fits : task < max_tasks
  task-fits = omega (arith, a.task_low, sound.tasks_fit)

  cell-fits : cell < max_cells
  cell-fits = omega (arith, a.cell_low, cells_fit s sound)

  pub seen_rises : (t : ℕ) → seen_of s t ≤ seen_of after t
  seen_rises t = elim (ℕ_discrete t task) [
    | yes p ↦ rw (p, next-seen s task cell write shaped task-fits)
        (row_rises s task (view (locality_of s cell) task (seen_of s task) write) (sound.task task a.task_low).seen_low)
    | no p ↦ rw (other_seen s task cell write t p) (omega arith)
  ]

  -- an access that is not a write of the cell leaves it in its share
  share_stays : (o share : ℕ) → (write ≡ true → o ≡ cell → ⊥) → locality_of s o ≡ ReadShared share → locality_of after o ≡ ReadShared share
  share_stays o share n l = elim (ℕ_discrete o cell) [
    | yes p ↦ elim (split write) [
      | passes w ↦ absurd (n w p)
      | fails w ↦ rw (p, next_locality s task cell write shaped cell-fits, w, rw p at l) (read_stays s task share (seen_of s task))
    ]
    | no p ↦ other_locality s task cell write o p ∙ l
  ]

  pub sees_stays : (t o : ℕ) → (write ≡ true → o ≡ cell → ⊥) → Sees s t o → Sees after t o
  sees_stays t o n k = record {
    share = k.share;
    shared = share_stays o k.share n k.shared;
    seen = omega (arith, k.seen, seen_rises t);
  }

  -- row 6 leaves every cell's state
  pub fence_leaves : row_at s task cell write ≡ Six → (o : ℕ) → locality_of after o ≡ locality_of s o
  unfolding locality_after
  fence_leaves r o = elim (ℕ_discrete o cell) [
    | yes p ↦ rw (p, next_locality s task cell write shaped cell-fits, r)
    | no p ↦ other_locality s task cell write o p
  ]

  -- after row 5 or 6 the task has seen the share of every cell that is shared then
  pub newest_sees : Newest (row_at s task cell write) → (o share : ℕ) → o < cell_count s → locality_of after o ≡ ReadShared share → Sees after task o
  newest_sees r o share low l = record {
    share = share;
    shared = l;
    seen = omega (
      arith,
      rw l at ((next_facts s task cell write shaped sound a).cell o (rw (next_cells s task cell write) low)).share_low,
      next-seen s task cell write shaped task-fits,
      next-shares s task cell write,
      newest_seen s task (locality_of s cell) r,
    );
  }
