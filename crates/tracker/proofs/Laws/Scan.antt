-- Soundness as the calls test it: first everything except the cells, then the cells one by one.
use Rattle.std.specs.Prelude.{Bool, true, false, ◌&&◌, ◌≡◌, ℕ, ◌+◌, ◌≤◌, ◌<◌, min, leb}
use Rattle.std.proofs.Math.Bool.{and-true, and-false, and-eq-true_iff}
use Rattle.std.proofs.Math.Path.{sym, ap}
use Rattle.std.proofs.Common.{◌∙◌, add-one, arith, leb-true}
use Rattle.codec.specs.Laws.Decide.{passes, fails, split}
use Rattle.tracker.specs.Laws.Counters.{counters_of}
use Rattle.codec.specs.Limit.{is_within, max_tasks, max_objects, max_fields, max_cells}
use Rattle.codec.specs.Laws.Limit.{within_facts}
use Rattle.codec.specs.Cell.{cells_of}
use Rattle.codec.specs.Laws.Cell.{cells_few}
use Rattle.tracker.specs.State.{cell_count}
use Rattle.tracker.specs.Range.{all_below}
use Rattle.tracker.proofs.Laws.Range.{all_fails}
use Rattle.tracker.specs.Sound.{last_sound, tasks_sound, cell_sound_at, sound_of}
use Rattle.tracker.specs.declared.Counters.{Counters}
use Rattle.tracker.specs.declared.State.{State}
use Rattle.tracker.specs.Laws.Scan.{counters_sound}

-- sound counters keep T, N and F in range
pub counters_low : (m : Counters) → counters_sound m ≡ true → (m.tasks ≤ max_tasks) × (m.objects ≤ max_objects) × (m.fields ≤ max_fields)
unfolding counters_sound
counters_low m e =
    let ranges = is_within 1 max_tasks m.tasks && is_within 1 max_objects m.objects in
    let width = leb m.fields max_fields in
    let a = ((and-eq-true_iff (ranges && width && last_sound m.last m.tasks m.shares m.done) _).0 e).0 in
    let b = (and-eq-true_iff ranges width).0 ((and-eq-true_iff (ranges && width) _).0 a).0 in
    let c = (and-eq-true_iff (is_within 1 max_tasks m.tasks) (is_within 1 max_objects m.objects)).0 b.0 in
    ((within_facts 1 max_tasks _ c.0).1, (within_facts 1 max_objects _ c.1).1, leb-true _ _ b.1)

module _ (s : State) where
  -- the result after n cells
  unfoldable pub sound_to : ℕ → Bool
  sound_to n = counters_sound (counters_of s) && all_below (cell_sound_at s) n

  pub scan_none : counters_sound (counters_of s) ≡ sound_to 0
  unfolding sound_to all_below
  scan_none = sym (and-true (counters_sound (counters_of s)))

  pub scan_more : (n : ℕ) → cell_sound_at s n ≡ true → sound_to n ≡ sound_to (n + 1)
  unfolding sound_to all_below
  scan_more n e = rw (add-one, e, and-true)

  -- an unsound cell ends the scan
  pub scan_bad : (n : ℕ) → n < cell_count s → cell_sound_at s n ≡ false → sound_of s ≡ false
  unfolding sound_of counters_sound
  scan_bad n h e = rw (all_fails (cell_sound_at s) (cell_count s) n h e) (and-false (counters_sound (counters_of s)))

  -- so do unsound counters
  pub scan_off : counters_sound (counters_of s) ≡ false → sound_of s ≡ false
  unfolding sound_of counters_sound
  scan_off e = rw e

  -- all cells that have a record
  scan_all : sound_to (min (cell_count s) max_cells) ≡ sound_of s
  unfolding sound_to sound_of counters_sound
  scan_all = elim (split (counters_sound (counters_of s))) [
    | passes p ↦
        let l = counters_low (counters_of s) p in
        ap (λ (n : ℕ). counters_sound (counters_of s) && all_below (cell_sound_at s) n) (omega (arith, cells_few s.fields s.objects l.2 l.1))
    | fails p ↦ rw p
  ]

  -- the counters give the number of cells to scan: each one below it has a record and is below N times F, and after it the scan is complete
  module _ (m : Counters) (e : m ≡ counters_of s) (n : ℕ) (q : n ≡ min (cells_of m.fields m.objects) max_cells) where
    count-is : cells_of m.fields m.objects ≡ cell_count s
    count-is = ap (λ (x : Counters). cells_of x.fields x.objects) e

    pub scan_low : (i : ℕ) → i < n → (i < max_cells) × (i < cell_count s)
    scan_low i h = (omega arith, omega (arith, count-is))

    pub scan_over : (i : ℕ) → i ≤ n → n ≤ i → sound_to i ≡ sound_of s
    scan_over i h l = ap sound_to (omega (arith, count-is)) ∙ scan_all
