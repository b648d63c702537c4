-- Which tasks are at their counts, and the run that goes no further than them.
use Rattle.std.specs.Prelude.{◌≡◌, refl, List, [], ◌∷◌, ℕ, zero, suc, ◌+◌, ◌<◌, min, length, get_or, take, set}
use Rattle.std.proofs.Common.{sym, ap, arith, add-one}
use Rattle.pending.specs.declared.TaskRun.{TaskRun}
use Rattle.pending.specs.Run.{task_at}
use Rattle.follow.specs.Within.{held_by, held_to}

-- one more count
held_suc : (counts : List ℕ) (xs : List TaskRun) (i : ℕ) → i < length counts → i < length xs
    → held_to (take (suc i) counts) xs ≡ set (held_to (take i counts) xs) i (held_by (task_at (held_to (take i counts) xs) i) (get_or counts i 0))
unfolding held_to
held_suc [] xs i h k = absurd (omega arith)
held_suc (c ∷ cs) [] i h k = absurd (omega arith)
held_suc (c ∷ cs) (x ∷ xs) zero h k = refl
held_suc (c ∷ cs) (x ∷ xs) (suc i) h k = ap (λ (l : List TaskRun). held_by x c ∷ l) (held_suc cs xs i (omega arith) (omega arith))

pub held_more : (counts : List ℕ) (xs runs : List TaskRun) (i n : ℕ) → runs ≡ held_to (take i counts) xs → i < length counts → i < length xs → n ≡ min (task_at runs i).count (get_or counts i 0)
    → set runs i (record { place = (task_at runs i).place; end = (task_at runs i).end; done = (task_at runs i).done; count = n }) ≡ held_to (take (i + 1) counts) xs
held_more counts xs runs i n e h k q = rw (q, e, add-one) (sym (held_suc counts xs i h k))

pub held_none : (xs : List TaskRun) → held_to [] xs ≡ xs
unfolding held_to
held_none xs = refl

pub held-length : (counts : List ℕ) (xs : List TaskRun) → length (held_to counts xs) ≡ length xs
unfolding held_to
held-length [] xs = refl
held-length (c ∷ cs) [] = refl
held-length (c ∷ cs) (x ∷ xs) = ap suc (held-length cs xs)
