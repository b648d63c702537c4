-- Laws of `Sound`.
use Rattle.std.specs.Prelude.{◌≡◌, [], ◌∷◌, Bool, true, ℕ}
use Rattle.history.specs.Entry.{Act, Entry}
use Rattle.history.specs.History.{History, At}
use Rattle.history.specs.Closed.{In, Closed}

-- The newest entry e comes after those entries of h whose act passes a test: closed counts for the whole history that have e in have them
-- in too.
pub record Follows (e : Entry) (h : History) (test : Act → Bool) : Type 0 where
  pub has : {d : ℕ → ℕ} {f : Entry} {k : History} → Closed d (e ∷ h) → In d e h → At f k h → test f.act ≡ true → In d f k
