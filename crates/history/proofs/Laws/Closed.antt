-- Laws of `Closed`.
use Rattle.std.specs.Prelude.{List, [], ◌∷◌, ℕ, ◌≤◌}
use Rattle.std.proofs.Common.{arith}
use Rattle.codec.specs.declared.Position.{Position}
use Rattle.history.specs.Entry.{Entry}
use Rattle.history.specs.History.{History, At, here, there}
use Rattle.history.proofs.Laws.History.{at-nil}
use Rattle.history.specs.Closed.{In, Met, Closed}

-- what is met stays met as tasks advance
pub met_mono : (d d' : ℕ → ℕ) → ((t : ℕ) → d t ≤ d' t) → (l : List Position) → Met d l → Met d' l
met_mono d d' le [] m = tt
met_mono d d' le (o ∷ l) m = (omega (arith, m.0, le o.task), met_mono d d' le l m.1)

-- closed for a history means closed for the history without its newest entry, and closed at that entry
pub closed_before : {d : ℕ → ℕ} {e : Entry} {h : History} → Closed d (e ∷ h) → Closed d h
closed_before c = record { met = λ a i. c.met (there a) i }

pub closed_none : (d : ℕ → ℕ) → Closed d []
closed_none d = record { met = λ a i. absurd (at-nil a) }

pub closed_more : {d : ℕ → ℕ} {e : Entry} {h : History} → Closed d h → (In d e h → Met d e.orderings) → Closed d (e ∷ h)
closed_more {d} {e} {h} c newest = record { met = met }
  where
    met : {f : Entry} {k : History} → At f k (e ∷ h) → In d f k → Met d f.orderings
    met here i = newest i
    met (there a) i = c.met a i
