-- Counts with one more access of a task (document 01, "Whole runs": a task has done as many accesses as steps naming it were taken): no
-- other task's count changes, and at most one entry comes in.
use Rattle.std.specs.Prelude.{◌≡◌, refl, ℕ, suc, ◌≤◌, ◌<◌}
use Rattle.std.proofs.Common.{arith, eq-eqb, ne_eqb}
use Rattle.std.proofs.Math.Decide.{dec_lt, ℕ_discrete}
use Rattle.history.specs.Entry.{Entry}
use Rattle.history.specs.History.{History, count}
use Rattle.history.specs.Closed.{In}
use Rattle.history.specs.Replay.{one_more}

pub one_more-own : (t : ℕ) (d : ℕ → ℕ) → one_more t d t ≡ suc (d t)
unfolding one_more
one_more-own t d = rw (eq-eqb t t refl)

pub one_more-other : (t : ℕ) (d : ℕ → ℕ) (u : ℕ) → (u ≡ t → ⊥) → one_more t d u ≡ d u
unfolding one_more
one_more-other t d u p = rw (ne_eqb u t p)

pub one_more_rises : (t : ℕ) (d : ℕ → ℕ) (u : ℕ) → d u ≤ one_more t d u
one_more_rises t d u = elim (ℕ_discrete u t) [
  | yes p ↦ rw p (omega (arith, one_more-own t d))
  | no p ↦ omega (arith, one_more-other t d u p)
]

-- an entry that comes in with one more access of t is t's, and it has the next number
pub comes_in : (d : ℕ → ℕ) (t : ℕ) (f : Entry) (k : History) → In (one_more t d) f k → (In d f k → ⊥) → (f.task ≡ t) × (count t k ≡ d t)
comes_in d t f k now before = elim (ℕ_discrete f.task t) [
  | yes p ↦
      let i : count t k < one_more t d t = rw p at now in
      let o : count t k < d t → ⊥ = rw p at before in
      (p, omega (arith, one_more-own t d))
  | no p ↦ absurd (omega (arith, one_more-other t d f.task p))
]

pub in_before : (d : ℕ → ℕ) (t : ℕ) (f : Entry) (k : History) → (f.task ≡ t → count t k ≡ d t → ⊥) → In (one_more t d) f k → In d f k
in_before d t f k other now = elim (dec_lt (count f.task k) (d f.task)) [
  | yes i ↦ i
  | no o ↦ let (own, number) = comes_in d t f k now o in absurd (other own number)
]
