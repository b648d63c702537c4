-- The written orderings imply the full list (document 01: "an ordering with s = 0, or with S the accessing task, is not written"): closed
-- counts that contain the access also meet the orderings that were left out.
use Rattle.std.specs.Prelude.{◌≡◌, refl, ℕ, ◌≤◌}
use mathlib.Core.List.Memᴰ
use mathlib.Core.List.{List, [], ◌∷◌, Memᴰ}
use Rattle.std.proofs.Common.{⊎_elim, arith}
use Rattle.std.proofs.Math.Decide.{ℕ_discrete}
use Rattle.codec.specs.declared.Position.{Position}
use Rattle.history.specs.Entry.{Entry}
use Rattle.history.specs.History.{History, count, here}
use Rattle.history.specs.Closed.{Met}
use Rattle.tracker.specs.Orderings.{written}
use Rattle.tracker.proofs.Laws.Written.{written_in, written_keeps}
use Rattle.tracker.specs.Laws.Covers.{Awaits}

-- a list is met if each of its orderings is
pub met-from : (d : ℕ → ℕ) (l : List Position) → ((p : Position) → Memᴰ p l → p.number ≤ d p.task) → Met d l
met-from d [] each = tt
met-from d (p ∷ l) each = (each p (Memᴰ.head refl), met-from d l (λ q m. each q (Memᴰ.tail m)))

met_at : (d : ℕ → ℕ) (l : List Position) → Met d l → (p : Position) → Memᴰ p l → p.number ≤ d p.task
met_at d [] all p m = absurd (Memᴰ.not-nil m)
met_at d (q ∷ l) all p m = ⊎_elim (λ (e : p ≡ q). rw e all.0) (λ (n : Memᴰ p l). met_at d l all.1 p n) (Memᴰ.cases_cons m)

-- An ordering that is left out has number 0, or comes from the accessing task, which has done all its earlier accesses once this one is
-- in. `before` is what each task had done when the access was made.
pub written_implies_full : (d before : ℕ → ℕ) (task : ℕ) (full : List Position) → before task ≤ d task → Met before full
    → Met d (written task full) → Met d full
written_implies_full d before task full own back met = met-from d full each
  where
    each : (p : Position) → Memᴰ p full → p.number ≤ d p.task
    each p m = elim (ℕ_discrete p.number 0) [
      | yes none ↦ omega arith
      | no some ↦ elim (ℕ_discrete p.task task) [
        | yes mine ↦
            let b : p.number ≤ before p.task = met_at before full back p m in
            let c : p.number ≤ before task = rw mine at b in
            rw mine (omega arith)
        | no other ↦ met_at d (written task full) met p (written_keeps task p full record { some = some; other = other } m)
      ]
    ]

-- what is written is part of the full list
pub full_implies_written : (d : ℕ → ℕ) (task : ℕ) (full : List Position) → Met d full → Met d (written task full)
full_implies_written d task full met = met-from d (written task full) (λ p m. met_at d full met p (written_in task p full m).0)

-- so the newest entry, by what it writes, is ordered after every ordering of the full list
pub awaits_full : (e : Entry) (h : History) (full : List Position) → e.orderings ≡ written e.task full → Met (λ t. count t h) full
    → (p : Position) → Memᴰ p full → Awaits e h p
awaits_full e h full writes back p m = record {
  reached = λ {d} closed i. met_at d full (written_implies_full d (λ t. count t h) e.task full (omega arith) back (rw writes at (closed.met here i))) p m;
}
