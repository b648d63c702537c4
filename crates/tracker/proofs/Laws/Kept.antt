-- An accepted access keeps a sound state sound.
use Rattle.std.specs.Prelude.{Bool, true, false, List, ◌≡◌, refl, ℕ, ◌+◌, ◌≤◌, ◌<◌, eqb, length, get_or, set}
use Rattle.std.proofs.Common.{arith, eqb-true, get_or-set_same, get_or-set_other}
use Rattle.std.proofs.lemmas.Bool.{eqb-false}
use Rattle.codec.specs.Limit.{max_accesses}
use Rattle.tracker.specs.State.{done_of, seen_of, cell_count, locality_of, owned}
use Rattle.tracker.specs.Laws.State.{Shaped}
use Rattle.tracker.specs.Row.{row_at}
use Rattle.tracker.specs.Laws.View.{View, one, two, three, four, five, six, seven, eight, nine, ten}
use Rattle.tracker.proofs.Laws.View.{view}
use Rattle.tracker.specs.Next.{locality_after, Effect, unchanged, effect_of, number_now, stepped, state_after}
use Rattle.tracker.specs.Laws.Counters.{counters_of}
use Rattle.tracker.specs.Laws.Plan.{Admits}
use Rattle.tracker.proofs.Laws.Sum.{sum_rises, sum_bound}
use Rattle.tracker.specs.Sound.{sound_of}
use Rattle.tracker.specs.Laws.Facts.{Sound, LastBounds, TaskBounds, CellBounds}
use Rattle.tracker.proofs.Laws.Facts.{writer_bounds, reader_bounds, shared_bounds, sound_facts, sound_test, cells_fit}
use Rattle.tracker.specs.declared.Locality.{Locality}
use Rattle.tracker.specs.declared.Locality.TheVariants.{WriteExclusive}
use Rattle.tracker.specs.declared.CellRecord.{CellRecord}
use Rattle.tracker.specs.declared.Row.{Row}
use Rattle.tracker.specs.declared.State.{State}
use Rattle.tracker.specs.Laws.Kept.{Accepts, Keeps}

-- no index and no number of an accepted access is out of range
pub sound_admits : (s : State) (task cell : ℕ) → Sound s → Accepts s task cell → Admits (counters_of s) (locality_of s cell) task
sound_admits s task cell f a = record {
  task_low = omega (arith, a.task_low, f.tasks_fit);
  holder_low = omega (arith, (f.cell cell a.cell_low).holder_low, f.tasks_fit);
  more = a.more;
  share = omega (arith, f.counted, f.tasks_fit, sum_bound s.done s.tasks (λ (i : ℕ) (h : i < s.tasks). (f.task i h).done_fits));
}

-- an entry of a list with one entry set, by cases
pub set_cases : {A : Type 0} (P : A → Type 0) (l : List A) (i j : ℕ) (a d : A) → i < length l →
    (j ≡ i → P a) → ((j ≡ i → ⊥) → P (get_or l j d)) → P (get_or (set l i a) j d)
set_cases P l i j a d h same other = cases (eqb j i) refl
  where
    cases : (b : Bool) → eqb j i ≡ b → P (get_or (set l i a) j d)
    cases true e = let k : j ≡ i = eqb-true j i e in rw (k, get_or-set_same l i a d h) (same k)
    cases false e = rw (get_or-set_other l i j a d (eqb-false j i e)) (other (eqb-false j i e))

-- with a larger G a cell stays within its bounds
cell_rises : (l : Locality) (tasks g k : ℕ) → g ≤ k → CellBounds l tasks g → CellBounds l tasks k
cell_rises l tasks g k h f = record {
  holder_low = f.holder_low;
  share_low = omega (arith, f.share_low);
  share_some = f.share_some;
}

module _ (s : State) (task : ℕ) (shaped : Shaped s) (sound : Sound s) (low : task < s.tasks) where
  in_done : task < length s.done
  in_done = omega (arith, shaped.done, sound.tasks_fit)

  done_rises : (i : ℕ) → done_of s i ≤ get_or (set s.done task (number_now s task)) i 0
  done_rises i =
      set_cases (λ (x : ℕ). done_of s i ≤ x) s.done task i (number_now s task) 0 in_done
      (λ (e : i ≡ task). rw e (omega arith)) (λ (n : i ≡ task → ⊥). omega arith)

  -- the tasks' entries after an access
  task-after : (e : Effect) (l : Locality) → done_of s task < max_accesses → Keeps s task l e → (i : ℕ) → i < s.tasks →
      TaskBounds (get_or (set s.done task (number_now s task)) i 0) (get_or (set s.seen task e.seen) i 0)
      (get_or (set s.took task e.took) i 0) e.shares
  task-after e l more k i h = cases (eqb i task) refl
    where
      cases : (b : Bool) → eqb i task ≡ b →
          TaskBounds (get_or (set s.done task (number_now s task)) i 0) (get_or (set s.seen task e.seen) i 0)
          (get_or (set s.took task e.took) i 0) e.shares
      cases true q =
          rw (
            eqb-true i task q,
            get_or-set_same s.done task (number_now s task) 0 in_done,
            get_or-set_same s.seen task e.seen 0 (omega (arith, shaped.seen, sound.tasks_fit)),
            get_or-set_same s.took task e.took 0 (omega (arith, shaped.took, sound.tasks_fit)),
          )
          record { done_fits = omega arith; seen_low = k.seen; took_low = k.took }
      cases false q =
          let n = eqb-false i task q in
          rw (
            get_or-set_other s.done task i (number_now s task) 0 n,
            get_or-set_other s.seen task i e.seen 0 n,
            get_or-set_other s.took task i e.took 0 n,
          )
          record {
            done_fits = (sound.task i h).done_fits;
            seen_low = omega (arith, (sound.task i h).seen_low, k.rises);
            took_low = (sound.task i h).took_low;
          }

  stepped_sound : (cell : ℕ) (l : Locality) (e : Effect) → cell < cell_count s → done_of s task < max_accesses → Keeps s task l e →
      Sound (stepped s task cell l e)
  stepped_sound cell l e h more k = record {
    some_task = sound.some_task;
    tasks_fit = sound.tasks_fit;
    some_object = sound.some_object;
    objects_fit = sound.objects_fit;
    fields_fit = sound.fields_fit;
    last = k.last;
    counted = rw (sum_rises s.done task s.tasks in_done low) (omega (arith, sound.counted, k.by_one));
    task = task-after e l more k;
    cell = λ o g.
        set_cases (λ (r : CellRecord). CellBounds r.locality s.tasks e.shares) s.cells cell o (record { locality = l }) (owned 0)
        (omega (arith, shaped.cells, cells_fit s sound))
        (λ q. k.cell) (λ n. cell_rises (locality_of s o) s.tasks s.shares e.shares k.rises (sound.cell o g));
  }

  -- rows that leave G, Last, Seen and Took unchanged
  last-stays : LastBounds s.last s.tasks s.shares (set s.done task (number_now s task))
  last-stays = record {
    placed = sound.last.placed;
    task_low = sound.last.task_low;
    reached = omega (arith, sound.last.reached, done_rises s.last.task);
  }

  plain_keeps : (l : Locality) → CellBounds l s.tasks s.shares → Keeps s task l (unchanged s task)
  plain_keeps l b = record {
    rises = omega arith;
    by_one = omega arith;
    seen = (sound.task task low).seen_low;
    took = omega (arith, (sound.task task low).took_low);
    last = last-stays;
    cell = b;
  }

  mine : Keeps s task (WriteExclusive task) (unchanged s task)
  mine = plain_keeps (WriteExclusive task) (writer_bounds s.tasks s.shares task low)

  row_keeps : (l : Locality) (write : Bool) (row : Row) → CellBounds l s.tasks s.shares → View task (seen_of s task) l write row →
      Keeps s task (locality_after row s task l) (effect_of row s task l)
  unfolding locality_after effect_of
  row_keeps l write row b (one w) = plain_keeps _ b
  row_keeps l write row b two = plain_keeps _ b
  row_keeps l write row b (three share h) = plain_keeps _ b
  row_keeps l write row b four = mine
  row_keeps l write row b (five holder n) = record {
    rises = omega arith;
    by_one = omega arith;
    seen = omega arith;
    took = omega (arith, (sound.task task low).took_low);
    last = record {
      placed = λ z. omega arith;
      task_low = λ z. low;
      reached = rw (get_or-set_same s.done task (number_now s task) 0 in_done) (omega arith);
    };
    cell = shared_bounds s.tasks (s.shares + 1) (s.shares + 1) sound.some_task (omega arith) (omega arith);
  }
  row_keeps l write row b (six share h) = record {
    rises = omega arith;
    by_one = omega arith;
    seen = omega arith;
    took = omega (arith, (sound.task task low).took_low);
    last = last-stays;
    cell = b;
  }
  row_keeps l write row b (seven holder n) = mine
  row_keeps l write row b (eight holder n) = record {
    rises = omega arith;
    by_one = omega arith;
    seen = (sound.task task low).seen_low;
    took = omega arith;
    last = last-stays;
    cell = reader_bounds s.tasks s.shares task low;
  }
  row_keeps l write row b (nine holder n) = mine
  row_keeps l write row b (ten share) = mine

-- a sound state stays sound
pub next_facts : (s : State) (task cell : ℕ) (write : Bool) → Shaped s → Sound s → Accepts s task cell → Sound (state_after s task cell write)
unfolding state_after
next_facts s task cell write shaped f a =
    stepped_sound s task shaped f a.task_low cell _ _ a.cell_low a.more
    (row_keeps s task shaped f a.task_low (locality_of s cell) write (row_at s task cell write) (f.cell cell a.cell_low)
    (view (locality_of s cell) task (seen_of s task) write))

pub next_sound : (s : State) (task cell : ℕ) (write : Bool) → Shaped s → sound_of s ≡ true → Accepts s task cell →
    sound_of (state_after s task cell write) ≡ true
next_sound s task cell write shaped e a = sound_test _ (next_facts s task cell write shaped (sound_facts s e) a)
