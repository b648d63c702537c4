-- Laws of `Opened`.
use Rattle.std.specs.Prelude.{true, List, ◌≡◌, length, get_or, set, replicate}
use Rattle.std.proofs.Math.Logic.{⊎_elim}
use Rattle.std.proofs.Math.Path.{refl, ap}
use Rattle.std.proofs.Common.{◌∙◌, eq-or-lt_of_le, le_of_suc-le-suc, div-lt_iff_lt-mul, get_or-set_same, get_or-set_other}
use Prim.Native.Nat.{ℕ, zero, suc, ◌+◌, ◌≤◌, ◌<◌}
use Rattle.std.proofs.Math.Numerals.{add-one}
use native.Mathlib.Omega.{arith}
use Rattle.std.proofs.Math.ListN.{length-set, length-replicate}
use Rattle.codec.specs.Laws.Zeros.{zeros-at}
use Rattle.codec.specs.Cell.{width_of, cells_of, cell_of, object_at}
use Rattle.codec.specs.Laws.Cell.{width_some, cell_below, cells_few, object-is, object_back}
use Rattle.codec.specs.Limit.{max_tasks, max_objects, max_fields, max_cells}
use Rattle.tracker.specs.State.{owned, done_of, cell_count, locality_of, holder_of}
use Rattle.tracker.specs.Laws.State.{Shaped}
use Rattle.tracker.specs.Sound.{sound_of}
use Rattle.tracker.specs.Laws.Facts.{Sound, TaskBounds}
use Rattle.tracker.proofs.Laws.Facts.{writer_bounds, sound_test}
use Rattle.tracker.specs.declared.Locality.TheVariants.{WriteExclusive}
use Rattle.tracker.specs.declared.CellRecord.{CellRecord}
use Rattle.tracker.specs.declared.State.{State}
use Rattle.tracker.specs.Opened.{owner_of, owned_cells, opened_state}
use Rattle.tracker.specs.Laws.Opened.{Fresh, Opens}

module _ (owners : List ℕ) (fields : ℕ) where
  pub cells_none : owned_cells owners fields 0 ≡ replicate max_cells (owned 0)
  unfolding owned_cells
  cells_none = refl

  pub cells_more : (n : ℕ) → owned_cells owners fields (n + 1) ≡ set (owned_cells owners fields n) n (owned (owner_of owners fields n))
  unfolding owned_cells
  cells_more n = rw add-one

  cells_length : (n : ℕ) → length (owned_cells owners fields n) ≡ max_cells
  unfolding owned_cells
  cells_length zero = length-replicate max_cells (owned 0)
  cells_length (suc n) = rw length-set (cells_length n)

  cells_at : (n c : ℕ) → n ≤ max_cells → c < n → get_or (owned_cells owners fields n) c (owned 0) ≡ owned (owner_of owners fields c)
  unfolding owned_cells
  cells_at zero c h k = absurd (let z : ⊥ = omega arith in z)
  cells_at (suc n) c h k =
      ⊎_elim
      (λ (e : c ≡ n). rw e (get_or-set_same (owned_cells owners fields n) n (owned (owner_of owners fields n)) (owned 0) (omega (arith, cells_length n))))
      (λ (l : c < n). rw (get_or-set_other (owned_cells owners fields n) n c (owned (owner_of owners fields n)) (owned 0) (λ (e : c ≡ n). omega arith))
      (cells_at n c (omega arith) l))
      (eq-or-lt_of_le (le_of_suc-le-suc k))

-- the object of a cell
pub object-below : (fields objects cell : ℕ) → cell < cells_of fields objects → object_at fields cell < objects
unfolding cells_of
object-below fields objects cell h = rw (object-is fields cell) ((div-lt_iff_lt-mul (width_some fields)).1 h)

module _ (tasks objects fields : ℕ) (owners : List ℕ) where
  pub opened_shaped : Shaped (opened_state tasks objects fields owners)
  unfolding opened_state
  opened_shaped = record {
    cells = cells_length owners fields (cells_of fields objects);
    done = refl;
    seen = refl;
    took = refl;
  }

  pub opened_cells : cell_count (opened_state tasks objects fields owners) ≡ cells_of fields objects
  unfolding opened_state
  opened_cells = refl

  -- no access has been made yet
  pub opened-done : (task : ℕ) → done_of (opened_state tasks objects fields owners) task ≡ 0
  unfolding opened_state
  opened-done task = zeros-at max_tasks task

  module _ (o : Opens tasks objects fields owners) where
    pub opened_owner : (cell : ℕ) → cell < cells_of fields objects
        → locality_of (opened_state tasks objects fields owners) cell ≡ WriteExclusive (owner_of owners fields cell)
    unfolding opened_state
    opened_owner cell h =
        ap (λ (r : CellRecord). r.locality) (cells_at owners fields (cells_of fields objects) cell (cells_few fields objects o.fields_fit o.objects_fit) h)

    -- each field of an object is first held by the object's owner
    pub opened-field : (object field : ℕ) → object < objects → field < width_of fields
        → locality_of (opened_state tasks objects fields owners) (cell_of fields object field) ≡ WriteExclusive (get_or owners object 0)
    opened-field object field h k =
        opened_owner (cell_of fields object field) (cell_below fields objects object field h k) ∙ ap (λ (o : ℕ). WriteExclusive (get_or owners o 0)) (object_back fields object field k)

    -- an opening with T, N, F and the owners in range is sound
    pub opened_facts : Sound (opened_state tasks objects fields owners)
    unfolding opened_state
    opened_facts = record {
      some_task = o.some_task;
      tasks_fit = o.tasks_fit;
      some_object = o.some_object;
      objects_fit = o.objects_fit;
      fields_fit = o.fields_fit;
      last = record { placed = λ h. refl; task_low = λ h. omega arith; reached = omega arith };
      counted = omega arith;
      task = λ i h. zeros i;
      cell = λ c h. rw (opened_owner c h) (writer_bounds tasks 0 (owner_of owners fields c) (o.owners_low _ (object-below fields objects c h)));
    }
      where
        zeros : (i : ℕ) → TaskBounds (get_or (replicate max_tasks 0) i 0) (get_or (replicate max_tasks 0) i 0) (get_or (replicate max_tasks 0) i 0) 0
        zeros i = rw (zeros-at max_tasks i) record { done_fits = omega arith; seen_low = omega arith; took_low = omega arith }

    pub opened_sound : sound_of (opened_state tasks objects fields owners) ≡ true
    opened_sound = sound_test _ opened_facts

    -- so accesses can be tracked from it
    pub opened-fresh : Fresh (opened_state tasks objects fields owners)
    opened-fresh = record {
      shaped = opened_shaped;
      sound = opened_facts;
      none_done = opened-done;
      held = λ cell low. rw (opened_owner cell (rw opened_cells at low));
    }
