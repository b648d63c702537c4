-- Soundness as named facts, and back to the test.
use Rattle.std.specs.Prelude.{Bool, true, false, cond, ◌&&◌, List, ◌≡◌, refl, ℕ, ◌≤◌, ◌<◌, eqb, leb, ltb, get_or}
use Rattle.std.proofs.Math.Bool.{and-eq-true_iff}
use Rattle.std.proofs.Common.{arith, lt-ltb, le-leb, ltb-true, leb-true, eq-eqb, eqb-true}
use Rattle.std.proofs.lemmas.Bool.{eqb-false}
use Rattle.codec.specs.declared.Position.{Position}
use Rattle.tracker.specs.State.{done_of, seen_of, took_of, cell_count, locality_of, holder_of, share_of}
use Rattle.codec.specs.Limit.{is_within, max_tasks, max_objects, max_fields, max_cells, max_accesses}
use Rattle.codec.specs.Laws.Cell.{cells_few}
use Rattle.codec.specs.Laws.Limit.{within_facts, within_test}
use Rattle.tracker.specs.Range.{all_below}
use Rattle.tracker.proofs.Laws.Range.{all-at, all-from}
use Rattle.tracker.specs.Sum.{sum_of}
use Rattle.tracker.specs.Sound.{last_sound, task_sound, task_sound_at, tasks_sound, cell_sound, cell_sound_at, sound_of}
use Rattle.tracker.specs.declared.Locality.{Locality}
use Rattle.tracker.specs.declared.Locality.TheVariants.{WriteExclusive, ReadExclusive, ReadShared}
use Rattle.tracker.specs.declared.State.{State}
use Rattle.tracker.specs.Laws.Facts.{CellBounds, LastBounds, Sound, TaskBounds}

pub task_facts : (done seen took shares : ℕ) → task_sound done seen took shares ≡ true → TaskBounds done seen took shares
unfolding task_sound
task_facts done seen took shares e =
    let a = (and-eq-true_iff (leb done max_accesses && leb seen shares) (leb took done)).0 e in
    let b = (and-eq-true_iff (leb done max_accesses) (leb seen shares)).0 a.0 in
    record {
      done_fits = leb-true done max_accesses b.0;
      seen_low = leb-true seen shares b.1;
      took_low = leb-true took done a.1;
    }

task_test : (done seen took shares : ℕ) → TaskBounds done seen took shares → task_sound done seen took shares ≡ true
unfolding task_sound
task_test done seen took shares f =
    rw (le-leb done max_accesses f.done_fits, le-leb seen shares f.seen_low, le-leb took done f.took_low)

last_facts : (p : Position) (tasks shares : ℕ) (done : List ℕ) → last_sound p tasks shares done ≡ true → LastBounds p tasks shares done
unfolding last_sound
last_facts p tasks shares done e = cases (eqb p.number 0) refl
  where
    cases : (b : Bool) → eqb p.number 0 ≡ b → LastBounds p tasks shares done
    cases true k =
        let z : p.number ≡ 0 = eqb-true p.number 0 k in
        record {
          placed = λ h. eqb-true shares 0 (rw k at e);
          task_low = λ h. omega arith;
          reached = omega arith;
        }
    cases false k =
        let b = (and-eq-true_iff (ltb p.task tasks) (leb p.number (get_or done p.task 0))).0 (rw k at e) in
        record {
          placed = λ h. absurd (eqb-false p.number 0 k h);
          task_low = λ h. ltb-true p.task tasks b.0;
          reached = leb-true p.number (get_or done p.task 0) b.1;
        }

last_test : (p : Position) (tasks shares : ℕ) (done : List ℕ) → LastBounds p tasks shares done → last_sound p tasks shares done ≡ true
unfolding last_sound
last_test p tasks shares done f = cases (eqb p.number 0) refl
  where
    cases : (b : Bool) → eqb p.number 0 ≡ b →
        cond b (eqb shares 0) (ltb p.task tasks && leb p.number (get_or done p.task 0)) ≡ true
    cases true k = eq-eqb shares 0 (f.placed (eqb-true p.number 0 k))
    cases false k =
        let h = eqb-false p.number 0 k in
        rw (lt-ltb p.task tasks (f.task_low (omega (arith, h))), le-leb p.number (get_or done p.task 0) f.reached)

-- a cell within bounds, by its state
module _ (tasks shares : ℕ) where
  pub writer_bounds : (holder : ℕ) → holder < tasks → CellBounds (WriteExclusive holder) tasks shares
  writer_bounds holder h = record {
    holder_low = h;
    share_low = omega arith;
    share_some = λ c k. let z : ◌≡◌ {A = ℕ} 0 1 = cc in omega arith;
  }

  pub reader_bounds : (holder : ℕ) → holder < tasks → CellBounds (ReadExclusive holder) tasks shares
  reader_bounds holder h = record {
    holder_low = h;
    share_low = omega arith;
    share_some = λ c k. let z : ◌≡◌ {A = ℕ} 0 1 = cc in omega arith;
  }

  pub shared_bounds : (share : ℕ) → 1 ≤ tasks → 1 ≤ share → share ≤ shares → CellBounds (ReadShared share) tasks shares
  shared_bounds share t h k = record {
    holder_low = t;
    share_low = k;
    share_some = λ c e. let q : share ≡ c = cc in omega arith;
  }

cell_facts : (l : Locality) (tasks shares : ℕ) → 1 ≤ tasks → cell_sound l tasks shares ≡ true → CellBounds l tasks shares
unfolding cell_sound
cell_facts (WriteExclusive holder) tasks shares h e = writer_bounds tasks shares holder (ltb-true holder tasks e)
cell_facts (ReadExclusive holder) tasks shares h e = reader_bounds tasks shares holder (ltb-true holder tasks e)
cell_facts (ReadShared share) tasks shares h e =
    let b = within_facts 1 shares share e in shared_bounds tasks shares share h b.0 b.1

cell_test : (l : Locality) (tasks shares : ℕ) → CellBounds l tasks shares → cell_sound l tasks shares ≡ true
unfolding cell_sound
cell_test (WriteExclusive holder) tasks shares f = lt-ltb holder tasks f.holder_low
cell_test (ReadExclusive holder) tasks shares f = lt-ltb holder tasks f.holder_low
cell_test (ReadShared share) tasks shares f = within_test 1 shares share (f.share_some share refl) f.share_low

pub sound_facts : (s : State) → sound_of s ≡ true → Sound s
unfolding sound_of tasks_sound
sound_facts s e =
    let ranges = is_within 1 max_tasks s.tasks && is_within 1 max_objects s.objects in
    let width = leb s.fields max_fields in
    let last = last_sound s.last s.tasks s.shares s.done in
    let every = all_below (task_sound_at s.done s.seen s.took s.shares) s.tasks in
    let counted = leb s.shares (sum_of s.done s.tasks) in
    let a = (and-eq-true_iff (ranges && width && last && (every && counted)) (all_below (cell_sound_at s) (cell_count s))).0 e in
    let b = (and-eq-true_iff (ranges && width && last) (every && counted)).0 a.0 in
    let c = (and-eq-true_iff (ranges && width) last).0 b.0 in
    let w = (and-eq-true_iff ranges width).0 c.0 in
    let d = (and-eq-true_iff (is_within 1 max_tasks s.tasks) (is_within 1 max_objects s.objects)).0 w.0 in
    let t = (and-eq-true_iff every counted).0 b.1 in
    let tasks = within_facts 1 max_tasks s.tasks d.0 in
    let objects = within_facts 1 max_objects s.objects d.1 in
    record {
      some_task = tasks.0;
      tasks_fit = tasks.1;
      some_object = objects.0;
      objects_fit = objects.1;
      fields_fit = leb-true s.fields max_fields w.1;
      last = last_facts s.last s.tasks s.shares s.done c.1;
      counted = leb-true s.shares (sum_of s.done s.tasks) t.1;
      task = λ i h. task_facts _ _ _ _ (all-at _ s.tasks t.0 i h);
      cell = λ c h. cell_facts _ _ _ tasks.0 (all-at _ (cell_count s) a.1 c h);
    }

pub sound_test : (s : State) → Sound s → sound_of s ≡ true
unfolding sound_of tasks_sound
sound_test s f =
    rw (
      within_test 1 max_tasks s.tasks f.some_task f.tasks_fit,
      within_test 1 max_objects s.objects f.some_object f.objects_fit,
      le-leb s.fields max_fields f.fields_fit,
      last_test s.last s.tasks s.shares s.done f.last,
      all-from (task_sound_at s.done s.seen s.took s.shares) s.tasks (λ (i : ℕ) (h : i < s.tasks). task_test _ _ _ _ (f.task i h)),
      le-leb s.shares (sum_of s.done s.tasks) f.counted,
      all-from (cell_sound_at s) (cell_count s) (λ (c : ℕ) (h : c < cell_count s). cell_test _ _ _ (f.cell c h)),
    )

-- a sound state has no more cells than its table
pub cells_fit : (s : State) → Sound s → cell_count s ≤ max_cells
cells_fit s f = cells_few s.fields s.objects f.fields_fit f.objects_fit
