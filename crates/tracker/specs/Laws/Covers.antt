-- Covering: why one ordering can stand for many accesses (document 01, "Transition table": an ordering (S, s) before an access means that
-- S must have done at least s accesses). A position covers the entries that closed counts must contain once they have reached it. An
-- entry ordered after the position comes after everything it covers.
use Rattle.std.specs.Prelude.{◌≡◌, [], ◌∷◌, Bool, true, ℕ, ◌≤◌, ◌<◌}
use Rattle.codec.specs.declared.Position.{Position}
use Rattle.history.specs.Entry.{Act, Entry}
use Rattle.history.specs.History.{History, At}
use Rattle.history.specs.Closed.{In, Closed}

-- closed counts that have reached p contain every entry whose act passes the test
pub record Covers (h : History) (p : Position) (test : Act → Bool) : Type 0 where
  pub has : {d : ℕ → ℕ} {e : Entry} {g : History} → Closed d h → p.number ≤ d p.task → At e g h → test e.act ≡ true → In d e g

-- closed counts that contain the newest entry e have reached p
pub record Awaits (e : Entry) (h : History) (p : Position) : Type 0 where
  pub reached : {d : ℕ → ℕ} → Closed d (e ∷ h) → In d e h → p.number ≤ d p.task
