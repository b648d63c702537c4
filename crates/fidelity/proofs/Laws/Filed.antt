-- Laws of `Filed`.
use Rattle.std.specs.Prelude.{◌≡◌, [], ◌∷◌, ℕ, length}
use Rattle.std.proofs.Common.{sym, ◌∙◌, arith, eq-eqb, ne_eqb, length-append}
use Rattle.std.proofs.Math.Decide.{ℕ_discrete}
use Rattle.history.specs.History.{History, count}
use Rattle.history.proofs.Laws.History.{count_none, count-own, count-other}
use Rattle.fidelity.specs.Filed.{filed_of}

-- the number of accesses the task has made
pub filed-count : (fields t : ℕ) (h : History) → length (filed_of fields t h) ≡ count t h
unfolding filed_of
filed-count fields t [] = sym (count_none t)
filed-count fields t (e ∷ g) = elim (ℕ_discrete e.task t) [
  | yes p ↦ rw (eq-eqb e.task t p, length-append) (omega (arith, filed-count fields t g, count-own t e g p))
  | no p ↦ rw (ne_eqb e.task t p) (filed-count fields t g ∙ sym (count-other t e g p))
]
