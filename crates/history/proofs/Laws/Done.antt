-- How many entries are in, and when all are (document 01, "Whole runs": accesses recorded and steps taken). Each further access brings in
-- one entry; so this number is the number of steps taken, is never above the number of entries, and equals it exactly when every task has
-- done all its accesses.
use Rattle.std.specs.Prelude.{◌≡◌, refl, [], ◌∷◌, ℕ, suc, ◌+◌, ◌≤◌, ◌<◌, min, ltb, length}
use Rattle.std.proofs.Common.{◌∙◌, arith, lt-ltb, le-ltb}
use Rattle.std.proofs.Math.Decide.{dec_lt, ℕ_discrete}
use Rattle.codec.specs.Bit.{bit}
use Rattle.history.specs.Entry.{Entry}
use Rattle.history.specs.History.{History, count, At}
use Rattle.history.proofs.Laws.History.{count_none, count-own, count-other, count_rises, at_lt}
use Rattle.history.specs.Closed.{In}
use Rattle.history.specs.Replay.{one_more}
use Rattle.history.proofs.Laws.OneMore.{one_more-own, one_more_rises, comes_in}
use Rattle.history.specs.Laws.Done.{AllDone}

pub entries_in : (ℕ → ℕ) → History → ℕ
entries_in done [] = 0
entries_in done (e ∷ g) = bit (ltb (count e.task g) (done e.task)) + entries_in done g

entries_in_lem : (d : ℕ → ℕ) (e : Entry) (g : History) → In d e g → entries_in d (e ∷ g) ≡ suc (entries_in d g)
unfolding entries_in
entries_in_lem d e g i = rw (lt-ltb (count e.task g) (d e.task) i) (omega arith)

entries-out : (d : ℕ → ℕ) (e : Entry) (g : History) → (In d e g → ⊥) → entries_in d (e ∷ g) ≡ entries_in d g
unfolding entries_in
entries-out d e g o = rw (le-ltb (count e.task g) (d e.task) (omega arith)) (omega arith)

pub entries_none : (d : ℕ → ℕ) → ((t : ℕ) → d t ≡ 0) → (h : History) → entries_in d h ≡ 0
unfolding entries_in
entries_none d z [] = refl
entries_none d z (e ∷ g) = entries-out d e g (λ i. omega (arith, z e.task)) ∙ entries_none d z g

pub entries-few : (d : ℕ → ℕ) (h : History) → entries_in d h ≤ length h
unfolding entries_in
entries-few d [] = omega arith
entries-few d (e ∷ g) = elim (dec_lt (count e.task g) (d e.task)) [
  | yes i ↦ omega (arith, entries_in_lem d e g i, entries-few d g)
  | no o ↦ omega (arith, entries-out d e g o, entries-few d g)
]

-- with one more access of t the number of entries that are in grows by one, or by none if t had none left
entries_change : (d : ℕ → ℕ) (t : ℕ) (h : History) → entries_in (one_more t d) h + min (count t h) (d t) ≡ entries_in d h + min (count t h) (suc (d t))
unfolding entries_in
entries_change d t [] = omega (arith, count_none t)
entries_change d t (e ∷ g) =
    let older = entries_change d t g in
    elim (dec_lt (count e.task g) (d e.task)) [
      | yes i ↦
          let now : In (one_more t d) e g = omega (arith, one_more_rises t d e.task) in
          elim (ℕ_discrete e.task t) [
            | yes p ↦
                let i' : count t g < d t = rw p at i in
                omega (arith, older, entries_in_lem d e g i, entries_in_lem (one_more t d) e g now, count-own t e g p)
            | no p ↦ omega (arith, older, entries_in_lem d e g i, entries_in_lem (one_more t d) e g now, count-other t e g p)
          ]
      | no o ↦ elim (dec_lt (count e.task g) (one_more t d e.task)) [
        | yes i ↦
            let (own, number) = comes_in d t e g i o in
            omega (arith, older, number, entries-out d e g o, entries_in_lem (one_more t d) e g i, count-own t e g own)
        | no o' ↦ elim (ℕ_discrete e.task t) [
          | yes p ↦
              let l : count t g < one_more t d t → ⊥ = rw p at o' in
              omega (arith, older, one_more-own t d, entries-out d e g o, entries-out (one_more t d) e g o', count-own t e g p)
          | no p ↦ omega (arith, older, entries-out d e g o, entries-out (one_more t d) e g o', count-other t e g p)
        ]
      ]
    ]

pub entries-more : (d : ℕ → ℕ) (t : ℕ) (h : History) → d t < count t h → entries_in (one_more t d) h ≡ suc (entries_in d h)
entries-more d t h l = omega (arith, entries_change d t h)

-- all entries are in exactly when every task has done all its entries
pub all-entries : (d : ℕ → ℕ) (h : History) → entries_in d h ≡ length h → AllDone d h
unfolding entries_in
all-entries d [] p t = omega (arith, count_none t)
all-entries d (e ∷ g) p t = elim (dec_lt (count e.task g) (d e.task)) [
  | no o ↦ absurd (omega (arith, entries-out d e g o, entries-few d g))
  | yes i ↦ elim (ℕ_discrete e.task t) [
    | yes q ↦ let i' : count t g < d t = rw q at i in omega (arith, count-own t e g q)
    | no q ↦ omega (arith, count-other t e g q, all-entries d g (omega (arith, entries_in_lem d e g i)) t)
  ]
]

pub entries-all : (d : ℕ → ℕ) (h : History) → AllDone d h → entries_in d h ≡ length h
unfolding entries_in
entries-all d [] all = refl
entries-all d (e ∷ g) all =
    omega (arith, entries_in_lem d e g (omega (arith, all e.task, count-own e.task e g refl)), entries-all d g (λ t. omega (arith, all t, count_rises t e g)))

pub all_in : {d : ℕ → ℕ} {e : Entry} {g h : History} → AllDone d h → At e g h → In d e g
all_in {e} all a = omega (arith, all e.task, at_lt e.task a refl)
