-- Laws for the code that stores a state.
use Rattle.std.specs.Prelude.{◌≡◌, refl, List, ◌∷◌, ◌++◌, ℕ, ◌+◌, ◌<◌, length, set}
use Rattle.std.proofs.Common.{append_assoc, arith, eq-eqb, ne_eqb, length-append}
use Rattle.codec.specs.Store.{store}
use Rattle.codec.specs.Laws.Store.{store-behind}
use Rattle.codec.specs.Limit.{max_tasks, max_cells}
use Rattle.pending.specs.Each.{each}
use Rattle.arrays.specs.Halves.{moved_to}
use Rattle.arrays.specs.Laws.Stores.{store-set, store_swap, store-more}

-- two parts of one list are filled together: the first n entries of each are stored
abbrev pub two : List ℕ → ℕ → ℕ → (ℕ → ℕ) → (ℕ → ℕ) → ℕ → List ℕ
two l at next f g n = store (store l at (each f n)) next (each g n)

pub two_none : (l : List ℕ) (at next : ℕ) (f g : ℕ → ℕ) → l ≡ two l at next f g 0
unfolding store each
two_none l at next f g = refl

pub two_more : (l : List ℕ) (at next n : ℕ) (f g : ℕ → ℕ) → at + n < next →
    set (set (two l at next f g n) (at + n) (f n)) (next + n) (g n) ≡ two l at next f g (n + 1)
two_more l at next n f g h = rw (store-set (store l at (each f n)) (at + n) next (f n) (each g n) h, store-more l at n f, store-more _ next n g)

pub one_none : (l : List ℕ) (at : ℕ) (f : ℕ → ℕ) → l ≡ store l at (each f 0)
unfolding store each
one_none l at f = refl

module _ (l done took cases holders : List ℕ) (d : length done ≡ max_tasks) (t : length took ≡ max_tasks) (c : length cases ≡ max_cells) where
  -- storing the cells' parts and then the tasks' gives one stored part
  parts : store (store (store (store l 37 cases) 2085 holders) 5 done) 21 took ≡ store l 5 (done ++ (took ++ (cases ++ holders)))
  parts =
      let n : length (done ++ took) ≡ 32 = rw length-append (omega arith) in
      rw (
        store-behind l 37 max_cells cases holders c,
        store-behind _ 5 max_tasks done took d,
        store_swap l 5 37 (done ++ took) (cases ++ holders) (omega arith),
        store-behind l 5 32 (done ++ took) (cases ++ holders) n,
        append_assoc,
      )

  pub halves_all : (v₀ v₁ v₂ v₃ v₄ : ℕ) →
      set (set (set (set (set (store (store (store (store l 37 cases) 2085 holders) 5 done) 21 took) 0 v₀) 1 v₁) 2 v₂) 3 v₃) 4 v₄
      ≡ store l 0 (v₀ ∷ v₁ ∷ v₂ ∷ v₃ ∷ v₄ ∷ (done ++ (took ++ (cases ++ holders))))
  unfolding store
  halves_all v₀ v₁ v₂ v₃ v₄ =
      let x = done ++ (took ++ (cases ++ holders)) in
      rw (parts, store-set l 0 5 v₀ x (omega arith), store-set _ 1 5 v₁ x (omega arith), store-set _ 2 5 v₂ x (omega arith), store-set _ 3 5 v₃ x (omega arith), store-set _ 4 5 v₄ x (omega arith))

pub words-all : (l seen shares : List ℕ) (v : ℕ) → length seen ≡ max_tasks →
    set (store (store l 17 shares) 1 seen) 0 v ≡ store l 0 (v ∷ (seen ++ shares))
unfolding store
words-all l seen shares v h =
    rw (store_swap l 1 17 seen shares (omega arith), store-behind l 1 max_tasks seen shares h, store-set l 0 1 v (seen ++ shares) (omega arith))

-- an array after a call that changes the state
pub moved-not : (number : ℕ) (l numbers : List ℕ) → (number ≡ 0 → ⊥) → l ≡ moved_to number l numbers
unfolding moved_to
moved-not number l numbers h = rw (ne_eqb number 0 h)

pub moved_on : (number : ℕ) (l numbers : List ℕ) → number ≡ 0 → store l 0 numbers ≡ moved_to number l numbers
unfolding moved_to
moved_on number l numbers h = rw (eq-eqb number 0 h)
