-- Laws of `Each`.
use Rattle.std.specs.Prelude.{◌≡◌, List, [], ◌∷◌, ℕ, zero, suc, ◌+◌, ◌<◌, ◌≤◌, length, get_or, set}
use Rattle.std.proofs.Math.Path.{refl}
use Rattle.std.proofs.Common.{sym, ◌∙◌, add-one, arith, length-append, take_all, ext_get_or}
use Rattle.std.proofs.Math.Decide.{ℕ_discrete}
use Rattle.std.proofs.Math.ListN.{length-set, get_or-append}
use Rattle.std.proofs.Math.Seq.{take-suc-set}
use Rattle.std.proofs.lemmas.List.{get_or_at}
use Rattle.pending.specs.Each.{each}
use Rattle.pending.specs.Laws.Each.{Filled}

pub each-length : {A : Type 0} (f : ℕ → A) (n : ℕ) → length (each f n) ≡ n
unfolding each
each-length f zero = refl
each-length f (suc n) = rw (length-append, each-length f n) (omega arith)

-- an entry of such a list
pub each_at : {A : Type 0} (f : ℕ → A) (n k : ℕ) (d : A) → k < n → get_or (each f n) k d ≡ f k
unfolding each
each_at f zero k d h = absurd (omega arith)
each_at f (suc n) k d h = elim (ℕ_discrete k n) [
  | yes e ↦ rw e (get_or_at (each f n) (f n) [] d n (each-length f n))
  | no e ↦ get_or-append (each f n) (f n ∷ []) d k (omega (arith, each-length f n, e)) ∙ each_at f n k d (omega (arith, e))
]

-- a list of n entries that agrees with f is this list
pub each_of : {A : Type 0} (f : ℕ → A) (n : ℕ) (l : List A) (d : A) → length l ≡ n → ((k : ℕ) → k < n → f k ≡ get_or l k d) → each f n ≡ l
each_of f n l d h g =
    ext_get_or d (each f n) l (each-length f n ∙ sym h) (λ k b. let b : k < n = omega (arith, each-length f n) in each_at f n k d b ∙ g k b)

module _ {A : Type 0} (f : ℕ → A) (n : ℕ) (l : List A) where
  pub filled_none : length l ≡ n → Filled f n l 0
  unfolding each
  filled_none h = record { within = omega arith; long = h; front = refl }

  pub filled_more : (i : ℕ) → i < n → Filled f n l i → Filled f n (set l i (f i)) (i + 1)
  unfolding each
  filled_more i h s = record {
    within = omega arith;
    long = length-set l i (f i) ∙ s.long;
    front = rw (add-one, take-suc-set l i (f i) (omega (arith, s.long)), s.front);
  }

  pub filled-all : (i : ℕ) → n ≤ i → Filled f n l i → l ≡ each f n
  filled-all i h s = let e : i ≡ n = omega (arith, s.within) in rw (e, take_all n l (omega (arith, s.long))) at s.front
