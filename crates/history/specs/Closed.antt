-- Closed counts; those of a replay are always closed. Counts say how many accesses each task has done; an entry is in if its task has done
-- it; the counts are closed if the orderings of every entry that is in are met (document 01, "Whole runs": (S, s) is met once S has done
-- s or more).
use Rattle.std.specs.Prelude.{List, [], ◌∷◌, ℕ, ◌≤◌, ◌<◌}
use Rattle.codec.specs.declared.Position.{Position}
use Rattle.history.specs.Entry.{Entry}
use Rattle.history.specs.History.{History, count, At}

-- entry e is in; g is the history before it
abbrev pub In : (ℕ → ℕ) → Entry → History → Type 0
In done e g = count e.task g < done e.task

-- every ordering of the list is met
abbrev pub Met : (ℕ → ℕ) → List Position → Type 0
Met done [] = Unit {0}
Met done (o ∷ l) = (o.number ≤ done o.task) × Met done l

pub record Closed (done : ℕ → ℕ) (h : History) : Type 0 where
  pub met : {e : Entry} {g : History} → At e g h → In done e g → Met done e.orderings
