-- A replay never gets stuck before the end (document 01, "Whole runs": the ready word). If every ordering points back, either every task
-- has done all its entries or some task is ready: everything before the oldest entry that is not in is in, so its orderings are met.
use Rattle.std.specs.Prelude.{refl, [], ◌∷◌, ℕ, ◌<◌}
use Rattle.std.proofs.Common.{arith}
use Rattle.std.proofs.Math.Decide.{dec_lt, ℕ_discrete}
use Rattle.history.specs.Entry.{Entry}
use Rattle.history.specs.History.{History, count, At, here, there}
use Rattle.history.proofs.Laws.History.{count_none, count-own, count-other}
use Rattle.history.proofs.Laws.Access.{access_later, access_of_lem}
use Rattle.history.specs.Closed.{Met}
use Rattle.history.proofs.Laws.Closed.{met_mono}
use Rattle.history.specs.Ready.{Ready}
use Rattle.history.proofs.Laws.Ready.{access-ready}
use Rattle.history.specs.Laws.Done.{AllDone}
use Rattle.history.specs.Laws.Progress.{Progress, finished, ready}

pub progress : (d : ℕ → ℕ) (h : History) → ((e : Entry) (g : History) → At e g h → Met (λ t. count t g) e.orderings) → Progress d h
progress d [] back = finished (λ t. omega (arith, count_none t))
progress d (e ∷ g) back = elim (progress d g (λ f k a. back f k (there a))) [
  | ready t r ↦ let (f, a) = access_of_lem t (d t) g r.left in ready t (access-ready d (access_later a) (r.met a))
  | finished all ↦ elim (dec_lt (count e.task g) (d e.task)) [
    | yes i ↦ finished (λ t. elim (ℕ_discrete e.task t) [
      | yes p ↦ let i' : count t g < d t = rw p at i in omega (arith, count-own t e g p)
      | no p ↦ omega (arith, count-other t e g p, all t)
    ])
    | no o ↦ ready e.task (access-ready d
        (record { before = g; at = here; own = refl; number = omega (arith, all e.task) })
        (met_mono (λ t. count t g) d all e.orderings (back e g here)))
  ]
]

pub finished_unready : {d : ℕ → ℕ} {h : History} → AllDone d h → (t : ℕ) → Ready h d t → ⊥
finished_unready all t r = omega (arith, all t, r.left)
