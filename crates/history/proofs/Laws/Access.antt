-- Laws of `Access`.
use Rattle.std.specs.Prelude.{◌≡◌, refl, [], ◌∷◌, ℕ, suc, ◌≤◌, ◌<◌}
use Rattle.std.proofs.Common.{arith}
use Rattle.std.proofs.Math.Decide.{dec_lt, ℕ_discrete}
use Rattle.history.specs.Entry.{Entry}
use Rattle.history.specs.History.{History, count, At, here, there}
use Rattle.history.proofs.Laws.History.{count_none, count-own, count-other, at_lt}
use Rattle.history.specs.Access.{Access}

pub access_bound : {h : History} {t n : ℕ} {e : Entry} → Access h t n e → n ≤ count t h
access_bound {t} a = omega (arith, at_lt t a.at a.own, a.number)

pub access_later : {h : History} {t n : ℕ} {e f : Entry} → Access h t n e → Access (f ∷ h) t n e
access_later a = record { before = a.before; at = there a.at; own = a.own; number = a.number }

-- a task has exactly one access for each number from 1 to its count
pub access_of_lem : (t n : ℕ) (h : History) → n < count t h → (e : Entry) × Access h t (suc n) e
access_of_lem t n [] l = absurd (omega (arith, count_none t))
access_of_lem t n (f ∷ k) l = elim (dec_lt n (count t k)) [
  | yes m ↦ let (e, a) = access_of_lem t n k m in (e, access_later a)
  | no m ↦ elim (ℕ_discrete f.task t) [
    | yes p ↦ (f, record { before = k; at = here; own = p; number = omega (arith, count-own t f k p) })
    | no p ↦ absurd (omega (arith, count-other t f k p))
  ]
]

at_unique : {e f : Entry} {g k h : History} (t : ℕ) → At e g h → At f k h → e.task ≡ t → f.task ≡ t → count t g ≡ count t k → e ≡ f
at_unique t here here p q r = refl
at_unique t here (there b) p q r = absurd (omega (arith, at_lt t b q))
at_unique t (there a) here p q r = absurd (omega (arith, at_lt t a p))
at_unique t (there a) (there b) p q r = at_unique t a b p q r

pub access_unique : {h : History} {t n : ℕ} {e f : Entry} → Access h t n e → Access h t n f → e ≡ f
access_unique {t} a b = at_unique t a.at b.at a.own b.own (omega (arith, a.number, b.number))
