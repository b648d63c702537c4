-- Laws for the loop that stores a run.
use Rattle.std.specs.Prelude.{◌≡◌, refl, List, ℕ, zero, suc, ◌+◌, ◌*◌, length, set}
use Rattle.std.proofs.Common.{add-one, arith, length-append}
use Rattle.codec.specs.Store.{store}
use Rattle.codec.specs.Laws.Store.{store-behind}
use Rattle.codec.specs.Limit.{max_tasks}
use Rattle.pending.specs.declared.TaskRun.{TaskRun}
use Rattle.pending.specs.declared.Run.{Run}
use Rattle.pending.specs.Run.{task_at}
use Rattle.arrays.specs.Places.{task_places, first_places, places_of}

pub places_length : (runs : List TaskRun) (n : ℕ) → length (first_places runs n) ≡ 4 * n
unfolding first_places
places_length runs zero = refl
places_length runs (suc n) = rw (length-append, places_length runs n) (omega arith)

pub places_none : (runs : List TaskRun) (l : List ℕ) → l ≡ store l 3 (first_places runs 0)
unfolding store first_places
places_none runs l = refl

pub places_more : (runs : List TaskRun) (l : List ℕ) (t : ℕ) →
    set (set (set (set (store l 3 (first_places runs t)) (3 + 4 * t) (task_at runs t).place) (4 + 4 * t) (task_at runs t).end) (5 + 4 * t) (task_at runs t).done) (6 + 4 * t)
    (task_at runs t).count ≡ store l 3 (first_places runs (t + 1))
unfolding store first_places
places_more runs l t =
    let i₃ : 4 + 4 * t ≡ suc (3 + 4 * t) = omega arith in
    let i₄ : 5 + 4 * t ≡ suc (suc (3 + 4 * t)) = omega arith in
    let i₅ : 6 + 4 * t ≡ suc (suc (suc (3 + 4 * t))) = omega arith in
    rw (i₅, i₄, i₃, add-one) (store-behind l 3 (4 * t) (first_places runs t) (task_places (task_at runs t)) (places_length runs t))

pub places_all : (r : Run) (l : List ℕ) → store (set (set (set l 0 r.tasks) 1 r.objects) 2 r.fields) 3 (first_places r.runs max_tasks) ≡ store l 0 (places_of r)
unfolding store
places_all r l = refl
