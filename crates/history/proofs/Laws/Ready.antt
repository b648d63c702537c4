-- Laws of `Ready`.
use Rattle.std.specs.Prelude.{◌≡◌, refl, List, [], ◌∷◌, true, ◌&&◌, ℕ, suc, ◌≤◌, eqb, leb}
use Rattle.std.proofs.Common.{sym, ◌∙◌, arith, eqb-true, eq-eqb, leb-true, le-leb}
use Rattle.std.proofs.Math.Option.{some, none, none-ne-some, some-ne-none}
use Rattle.std.proofs.Math.Decide.{dec_lt}
use Rattle.codec.specs.declared.Position.{Position}
use Rattle.codec.specs.Laws.Decide.{passes, fails, split, both_pass}
use Rattle.history.specs.Entry.{Entry}
use Rattle.history.specs.History.{History, count, At, here, there}
use Rattle.history.proofs.Laws.History.{at_lt}
use Rattle.history.specs.Access.{Access}
use Rattle.history.proofs.Laws.Access.{access_bound, access_later, access_of_lem, access_unique}
use Rattle.history.specs.Closed.{Met}
use Rattle.history.specs.Replay.{next, all_met}
use Rattle.history.specs.Ready.{Ready}

-- `next t n` is access number n + 1 of t, or none if t has at most n
pub next-access : (t n : ℕ) (h : History) (e : Entry) → next t n h ≡ some e → Access h t (suc n) e
unfolding next
next-access t n [] e p = absurd (none-ne-some e p)
next-access t n (f ∷ k) e p = elim (split (eqb f.task t && eqb (count t k) n)) [
  | fails q ↦ access_later (next-access t n k e (rw q at p))
  | passes q ↦
      let r : some f ≡ some e = rw q at p in
      let same : f ≡ e = cc in
      let (own, number) = both_pass (eqb f.task t) (eqb (count t k) n) q in
      rw (← same) (record { before = k; at = here; own = eqb-true f.task t own; number = omega (arith, eqb-true (count t k) n number) })
]

at_next : (t n : ℕ) {e : Entry} {g h : History} → At e g h → e.task ≡ t → count t g ≡ n → next t n h ≡ some e
unfolding next
at_next t n {e = e} {g = g} here p q = rw (eq-eqb e.task t p, eq-eqb (count t g) n q)
at_next t n (there {f = f} {h = h} a) p q = elim (split (eqb f.task t && eqb (count t h) n)) [
  | passes r ↦ absurd (omega (arith, at_lt t a p, eqb-true (count t h) n (both_pass (eqb f.task t) (eqb (count t h) n) r).1))
  | fails r ↦ rw r (at_next t n a p q)
]

pub access-next : {h : History} {t n : ℕ} {e : Entry} → Access h t (suc n) e → next t n h ≡ some e
access-next {t} {n} a = at_next t n a.at a.own (omega (arith, a.number))

pub next-none : (t n : ℕ) (h : History) → next t n h ≡ none → count t h ≤ n
next-none t n h p = elim (dec_lt n (count t h)) [
  | no q ↦ omega arith
  | yes l ↦ let (e, a) = access_of_lem t n h l in absurd (some-ne-none e (sym (access-next a) ∙ p))
]

pub all_met-met : (d : ℕ → ℕ) (l : List Position) → all_met d l ≡ true → Met d l
all_met-met d [] p = tt
all_met-met d (o ∷ l) p =
    let (first, rest) = both_pass (leb o.number (d o.task)) (all_met d l) p in
    (leb-true o.number (d o.task) first, all_met-met d l rest)

pub met-all_met : (d : ℕ → ℕ) (l : List Position) → Met d l → all_met d l ≡ true
met-all_met d [] m = refl
met-all_met d (o ∷ l) m = rw (le-leb o.number (d o.task) m.0) (met-all_met d l m.1)

-- a next access with its orderings met makes its task ready
pub access-ready : {h : History} (d : ℕ → ℕ) {t : ℕ} {e : Entry} → Access h t (suc (d t)) e → Met d e.orderings → Ready h d t
access-ready d a m = record { left = access_bound a; met = λ b. rw (access_unique b a) m }
