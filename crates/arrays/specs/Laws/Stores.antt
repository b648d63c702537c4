-- Storing several parts of one list, in any order.
use Rattle.std.specs.Prelude.{◌≡◌, refl, List, [], ◌∷◌, ◌++◌, ℕ, suc, ◌+◌, ◌<◌, ◌≤◌, length, get_or, set}
use Rattle.std.proofs.Common.{◌∙◌, append-nil, add-one, arith, drop_of_length-le, get_or-append-add}
use Rattle.std.proofs.lemmas.List.{set_comm}
use Rattle.codec.specs.Store.{store}
use Rattle.codec.specs.Laws.Store.{store-behind, store_split}
use Rattle.pending.specs.Each.{each}
use Rattle.pending.proofs.Laws.Each.{each-length}

-- setting an entry before a stored part
pub store-set : (l : List ℕ) (i at v : ℕ) (xs : List ℕ) → i < at → set (store l at xs) i v ≡ store (set l i v) at xs
unfolding store
store-set l i at v [] h = refl
store-set l i at v (x ∷ xs) h = store-set (set l at x) i (suc at) v xs (omega arith) ∙ rw (set_comm l at i x v (λ e. omega arith))

-- storing a part before another stored part
pub store_swap : (l : List ℕ) (i at : ℕ) (xs ys : List ℕ) → i + length xs ≤ at → store (store l at ys) i xs ≡ store (store l i xs) at ys
unfolding store
store_swap l i at [] ys h = refl
store_swap l i at (x ∷ xs) ys h = rw (store-set l i at x ys (omega arith)) (store_swap (set l i x) (suc i) at xs ys (omega arith))

-- a stored part grows by one entry
pub store-more : (l : List ℕ) (at n : ℕ) (f : ℕ → ℕ) → set (store l at (each f n)) (at + n) (f n) ≡ store l at (each f (n + 1))
unfolding store each
store-more l at n f = rw add-one (store-behind l at n (each f n) (f n ∷ []) (each-length f n))

-- storing over the whole list
pub store-whole : (l xs : List ℕ) → length l ≡ length xs → store l 0 xs ≡ xs
store-whole l xs h =
    let e : 0 + length xs ≡ length xs = omega arith in
    let k : length l ≤ length xs = omega arith in
    store_split l 0 xs (omega arith) ∙ rw (e, drop_of_length-le l k, append-nil xs)

-- an entry after the first n
pub behind : (xs ys : List ℕ) (n k : ℕ) → length xs ≡ n → get_or (xs ++ ys) (n + k) 0 ≡ get_or ys k 0
behind xs ys n k h = rw (← h) (get_or-append-add xs ys k 0)
