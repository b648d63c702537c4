-- Laws of `History`.
use Rattle.std.specs.Prelude.{◌≡◌, refl, [], ◌∷◌, ℕ, suc, ◌≤◌, ◌<◌}
use Rattle.std.proofs.Common.{arith, eq-eqb, ne_eqb}
use Rattle.std.proofs.Math.Decide.{ℕ_discrete}
use Rattle.history.specs.Entry.{Entry}
use Rattle.history.specs.History.{History, count, At, here, there}

pub count_none : (t : ℕ) → count t [] ≡ 0
unfolding count
count_none t = refl

pub count-own : (t : ℕ) (e : Entry) (g : History) → e.task ≡ t → count t (e ∷ g) ≡ suc (count t g)
unfolding count
count-own t e g p = rw (eq-eqb e.task t p) (omega arith)

pub count-other : (t : ℕ) (e : Entry) (g : History) → (e.task ≡ t → ⊥) → count t (e ∷ g) ≡ count t g
unfolding count
count-other t e g p = rw (ne_eqb e.task t p) (omega arith)

pub count_rises : (t : ℕ) (e : Entry) (g : History) → count t g ≤ count t (e ∷ g)
count_rises t e g = elim (ℕ_discrete e.task t) [
  | yes p ↦ omega (arith, count-own t e g p)
  | no p ↦ omega (arith, count-other t e g p)
]

pub at-nil : {e : Entry} {g : History} → At e g [] → ⊥
at-nil a = elim a [ ]

-- an entry before an entry of h is an entry of h
pub at_trans : {e f : Entry} {g k h : History} → At f k h → At e g k → At e g h
at_trans here b = there b
at_trans (there a) b = there (at_trans a b)

-- before an entry of t there are fewer entries of t than in the whole history
pub at_lt : {e : Entry} {g h : History} (t : ℕ) → At e g h → e.task ≡ t → count t g < count t h
at_lt {e} {g} t here p = omega (arith, count-own t e g p)
at_lt t (there {f = f} {h = h} a) p = omega (arith, at_lt t a p, count_rises t f h)
