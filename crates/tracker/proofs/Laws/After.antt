-- The state after an access, part by part: Done grows by one for the accessing task only, and the others' parts stay.
use Rattle.std.specs.Prelude.{Bool, ◌≡◌, ℕ, ◌+◌, ◌<◌}
use Rattle.std.proofs.Math.Path.{refl, ap}
use Rattle.std.proofs.Common.{arith}
use Rattle.std.proofs.Math.ListN.{length-set}
use Rattle.std.proofs.Math.Seq.{get_or-set_same, get_or-set_other}
use Rattle.codec.specs.Limit.{max_tasks, max_cells}
use Rattle.tracker.specs.State.{done_of, seen_of, took_of, cell_count, locality_of, owned}
use Rattle.tracker.specs.Laws.State.{Shaped}
use Rattle.tracker.specs.Row.{row_at}
use Rattle.tracker.specs.Next.{locality_after, effect_of, number_now, state_after}
use Rattle.tracker.specs.declared.CellRecord.{CellRecord}
use Rattle.tracker.specs.declared.State.{State}

module _ (s : State) (task cell : ℕ) (write : Bool) where
  pub next-tasks : (state_after s task cell write).tasks ≡ s.tasks
  unfolding state_after
  next-tasks = refl

  pub next-objects : (state_after s task cell write).objects ≡ s.objects
  unfolding state_after
  next-objects = refl

  pub next-fields : (state_after s task cell write).fields ≡ s.fields
  unfolding state_after
  next-fields = refl

  pub next_cells : cell_count (state_after s task cell write) ≡ cell_count s
  unfolding state_after
  next_cells = refl

  pub next_shaped : Shaped s → Shaped (state_after s task cell write)
  unfolding state_after
  next_shaped l = record {
    cells = rw length-set l.cells;
    done = rw length-set l.done;
    seen = rw length-set l.seen;
    took = rw length-set l.took;
  }

  pub next-done : Shaped s → task < max_tasks → done_of (state_after s task cell write) task ≡ done_of s task + 1
  unfolding state_after
  next-done l h = get_or-set_same s.done task (number_now s task) 0 (omega (arith, l.done))

  pub next_locality : Shaped s → cell < max_cells →
      locality_of (state_after s task cell write) cell ≡ locality_after (row_at s task cell write) s task (locality_of s cell)
  unfolding state_after
  next_locality l h = ap (λ (r : CellRecord). r.locality) (get_or-set_same s.cells cell _ (owned 0) (omega (arith, l.cells)))

  pub next-seen : Shaped s → task < max_tasks →
      seen_of (state_after s task cell write) task ≡ (effect_of (row_at s task cell write) s task (locality_of s cell)).seen
  unfolding state_after
  next-seen l h = get_or-set_same s.seen task _ 0 (omega (arith, l.seen))

  pub next-took : Shaped s → task < max_tasks →
      took_of (state_after s task cell write) task ≡ (effect_of (row_at s task cell write) s task (locality_of s cell)).took
  unfolding state_after
  next-took l h = get_or-set_same s.took task _ 0 (omega (arith, l.took))

  pub next-shares : (state_after s task cell write).shares ≡ (effect_of (row_at s task cell write) s task (locality_of s cell)).shares
  unfolding state_after
  next-shares = refl

  pub next_last : (state_after s task cell write).last ≡ (effect_of (row_at s task cell write) s task (locality_of s cell)).last
  unfolding state_after
  next_last = refl

  -- the other tasks and cells
  module _ (other : ℕ) where
    pub other_done : (other ≡ task → ⊥) → done_of (state_after s task cell write) other ≡ done_of s other
    unfolding state_after
    other_done n = get_or-set_other s.done task other (number_now s task) 0 n

    pub other_seen : (other ≡ task → ⊥) → seen_of (state_after s task cell write) other ≡ seen_of s other
    unfolding state_after
    other_seen n = get_or-set_other s.seen task other _ 0 n

    pub other_took : (other ≡ task → ⊥) → took_of (state_after s task cell write) other ≡ took_of s other
    unfolding state_after
    other_took n = get_or-set_other s.took task other _ 0 n

    pub other_locality : (other ≡ cell → ⊥) → locality_of (state_after s task cell write) other ≡ locality_of s other
    unfolding state_after
    other_locality n = ap (λ (r : CellRecord). r.locality) (get_or-set_other s.cells cell other _ (owned 0) n)
