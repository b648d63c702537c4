-- Storing a run and reading it back gives the same run.
use Rattle.std.specs.Prelude.{◌≡◌, List, [], ◌∷◌, ℕ, zero, suc, ◌+◌, ◌*◌, ◌<◌, length, get_or}
use Rattle.std.proofs.Common.{subst, sym, ◌∙◌, arith, get_or-append-add}
use Rattle.std.proofs.Math.Decide.{ℕ_discrete}
use Rattle.std.proofs.Math.ListN.{get_or-append}
use Rattle.codec.specs.Store.{store}
use Rattle.codec.specs.Limit.{max_tasks}
use Rattle.pending.specs.declared.TaskRun.{TaskRun}
use Rattle.pending.specs.declared.Run.{Run}
use Rattle.pending.specs.Laws.Moved.{Shaped}
use Rattle.pending.specs.Run.{task_at, blank_task}
use Rattle.pending.proofs.Laws.Each.{each_of}
use Rattle.arrays.specs.Places.{task_in, run_in, task_places, first_places, places_of}
use Rattle.arrays.specs.Laws.PlacesCode.{places_length}
use Rattle.arrays.specs.Laws.Stores.{store-whole, behind}

places_at : (runs : List TaskRun) (n t k : ℕ) → t < n → k < 4 → get_or (first_places runs n) (4 * t + k) 0 ≡ get_or (task_places (task_at runs t)) k 0
unfolding first_places
places_at runs zero t k h l = absurd (omega arith)
places_at runs (suc n) t k h l = elim (ℕ_discrete t n) [
  | yes e ↦
      subst (λ (m : ℕ). get_or (first_places runs (suc n)) (4 * m + k) 0 ≡ get_or (task_places (task_at runs m)) k 0) (sym e)
      (behind (first_places runs n) (task_places (task_at runs n)) (4 * n) k (places_length runs n))
  | no e ↦ get_or-append (first_places runs n) _ 0 (4 * t + k) (omega (arith, places_length runs n, e)) ∙ places_at runs n t k (omega (arith, e)) l
]

module _ (r : Run) where
  place_at : (t k i : ℕ) → t < max_tasks → k < 4 → i ≡ 3 + (4 * t + k) → get_or (places_of r) i 0 ≡ get_or (task_places (task_at r.runs t)) k 0
  place_at t k i h l e = rw e (get_or-append-add (r.tasks ∷ r.objects ∷ r.fields ∷ []) (first_places r.runs max_tasks) (4 * t + k) 0 ∙ places_at r.runs max_tasks t k h l)

  task_back : (t : ℕ) → t < max_tasks → task_in (places_of r) t ≡ task_at r.runs t
  task_back t h =
      rw (
        place_at t 0 (3 + 4 * t) h (omega arith) (omega arith),
        place_at t 1 (4 + 4 * t) h (omega arith) (omega arith),
        place_at t 2 (5 + 4 * t) h (omega arith) (omega arith),
        place_at t 3 (6 + 4 * t) h (omega arith) (omega arith),
      )

  pub run_back : (places : List ℕ) → length places ≡ 67 → Shaped r → run_in (store places 0 (places_of r)) ≡ r
  run_back places h s =
      let n : length places ≡ length (places_of r) = omega (arith, places_length r.runs max_tasks) in
      rw (store-whole places (places_of r) n, each_of (task_in (places_of r)) max_tasks r.runs blank_task s task_back)
