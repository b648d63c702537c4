-- Which tasks a ready word has, and how long the lines of a pause can be.
use Rattle.std.specs.Prelude.{◌≡◌, Bool, cond, ◌↔◌}
use Rattle.std.proofs.Math.Path.{refl}
use Rattle.std.proofs.Math.Bool.{true, false}
use Rattle.std.proofs.Math.Logic.{⊎_elim}
use mathlib.Core.List.Memᴰ
use mathlib.Core.List.{List, [], ◌∷◌, Memᴰ}
use Prim.Native.Nat.{ℕ, zero, suc, ◌+◌, ◌*◌, ◌<◌, ◌≤◌}
use Rattle.std.proofs.Math.Decide.{ℕ_discrete}
use native.Mathlib.Omega.{arith}
use Rattle.std.proofs.Math.ListN.{length, get_or}
use Rattle.codec.specs.Limit.{max_cells}
use Rattle.pending.specs.declared.Run.{Run}
use Rattle.pending.specs.Each.{each}
use Rattle.pending.proofs.Laws.Each.{each-length, each_at}
use Rattle.pending.specs.Run.{done_of}
use Rattle.replayer.specs.Word.{has_bit}
use Rattle.replay_lines.specs.Block.{turned_line, chosen, ready_tasks, paused_line, done_line, ready_line, block_of}
use Rattle.replay_lines.proofs.Laws.LinesBound.{field-few, spaced-few, memory-few}
use Rattle.replay_lines.proofs.Laws.BlockCode.{turned_length, row-length, paused_length, block_length}

-- a task is chosen exactly if it is among the n and passes the test
module _ (f : ℕ → Bool) (t : ℕ) where
  chosen_in : (i n : ℕ) → Memᴰ t (chosen f i n) → (i ≤ t) × (t < i + n) × (f t ≡ true)
  unfolding chosen
  chosen_in i zero m = absurd (Memᴰ.not-nil m)
  chosen_in i (suc n) m = cases (λ k. let g = chosen_in (suc i) n k in (omega (arith, g.0), omega (arith, g.1), g.2)) (f i) refl m
    where
      cases : (Memᴰ t (chosen f (suc i) n) → (i ≤ t) × (t < i + suc n) × (f t ≡ true)) → (b : Bool) → f i ≡ b
          → Memᴰ t (cond b (i ∷ chosen f (suc i) n) (chosen f (suc i) n)) → (i ≤ t) × (t < i + suc n) × (f t ≡ true)
      cases later true e k = ⊎_elim (λ (q : t ≡ i). (omega arith, omega arith, rw q e)) later (Memᴰ.cases_cons k)
      cases later false e k = later k

  chosen_has : (i n : ℕ) → i ≤ t → t < i + n → f t ≡ true → Memᴰ t (chosen f i n)
  unfolding chosen
  chosen_has i zero l h e = absurd (omega arith)
  chosen_has i (suc n) l h e = elim (ℕ_discrete t i) [
    | yes q ↦ rw (rw q at e) (Memᴰ.head q)
    | no q ↦ later (f i) (chosen_has (suc i) n (omega (arith, q)) (omega arith) e)
  ]
    where
      later : (b : Bool) → Memᴰ t (chosen f (suc i) n) → Memᴰ t (cond b (i ∷ chosen f (suc i) n) (chosen f (suc i) n))
      later true m = Memᴰ.tail m
      later false m = m

-- the tasks of a ready word are those whose bit is set
pub ready-task : (word t : ℕ) → Memᴰ t (ready_tasks word) ↔ ((t < 16) × (has_bit word t ≡ true))
ready-task word t = (
  λ m. let g = chosen_in (has_bit word) t 0 16 m in (g.1, g.2),
  λ g. chosen_has (has_bit word) t 0 16 (omega arith) g.0 g.1,
)

-- at most n tasks are chosen, each below i + n
module _ (f : ℕ → Bool) where
  chosen-length : (i n : ℕ) → length (chosen f i n) ≤ n
  unfolding chosen
  chosen-length i zero = omega arith
  chosen-length i (suc n) = cases (f i) (chosen-length (suc i) n)
    where
      cases : (b : Bool) → length (chosen f (suc i) n) ≤ n → length (cond b (i ∷ chosen f (suc i) n) (chosen f (suc i) n)) ≤ suc n
      cases true h = omega arith
      cases false h = omega arith

  chosen-below : (i n k : ℕ) → k < length (chosen f i n) → get_or (chosen f i n) k 0 < i + n
  unfolding chosen
  chosen-below i zero k h = absurd (omega arith)
  chosen-below i (suc n) k h = cases (λ j g. omega (arith, chosen-below (suc i) n j g)) (f i) k h
    where
      cases : ((j : ℕ) → j < length (chosen f (suc i) n) → get_or (chosen f (suc i) n) j 0 < i + suc n)
          → (b : Bool) (j : ℕ) → j < length (cond b (i ∷ chosen f (suc i) n) (chosen f (suc i) n)) → get_or (cond b (i ∷ chosen f (suc i) n) (chosen f (suc i) n)) j 0 < i + suc n
      cases later true zero g = omega arith
      cases later true (suc j) g = later j (omega arith)
      cases later false j g = later j g

pub turned_few : (task number : ℕ) → task < 10000000000 → number < 100 → length (turned_line task number) ≤ 26
turned_few task number t n = omega (arith, turned_length task number, field-few 9 task 32 t, field-few 1 number 10 n)

paused_few : (steps : ℕ) → steps < 100000 → length (paused_line steps) ≤ 13
paused_few steps h = omega (arith, paused_length steps, field-few 4 steps 10 h)

done-few : (r : Run) → r.tasks ≤ 16 → ((t : ℕ) → t < r.tasks → done_of r.runs t < 100000) → length (done_line r) ≤ 4 + 6 * 16 + 1
done-few r h g =
    let ns = each (done_of r.runs) r.tasks in
    let l : length ns ≡ r.tasks = each-length (done_of r.runs) r.tasks in
    let small : (i : ℕ) → i < length ns → get_or ns i 0 < 100000 = λ i b. let b : i < r.tasks = omega arith in rw (each_at (done_of r.runs) r.tasks i 0 b) (g i b) in
    omega (arith, row-length (100 ∷ 111 ∷ 110 ∷ 101 ∷ []) ns, spaced-few 4 ns small)

ready-few : (word : ℕ) → length (ready_line word) ≤ 5 + 3 * 16 + 1
ready-few word =
    let small : (i : ℕ) → i < length (ready_tasks word) → get_or (ready_tasks word) i 0 < 100 = λ i b. omega (arith, chosen-below (has_bit word) 0 16 i b) in
    omega (arith, row-length (114 ∷ 101 ∷ 97 ∷ 100 ∷ 121 ∷ []) (ready_tasks word), chosen-length (has_bit word) 0 16, spaced-few 1 (ready_tasks word) small)

pub block_few : (steps : ℕ) (r : Run) (word : ℕ) (m : List ℕ) → steps < 100000 → r.tasks ≤ 16 → ((t : ℕ) → t < r.tasks → done_of r.runs t < 100000)
    → length m ≤ max_cells → ((i : ℕ) → get_or m i 0 < 10000000000) → length (block_of steps r word m) ≤ 22703
block_few steps r word m s t d l v =
    omega (arith, block_length steps r word m, paused_few steps s, done-few r t d, ready-few word, memory-few m v)
