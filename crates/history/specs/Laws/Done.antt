-- How many entries are in, and when all are (document 01, "Whole runs": accesses recorded and steps taken). Each further access brings in
-- one entry; so this number is the number of steps taken, is never above the number of entries, and equals it exactly when every task has
-- done all its accesses.
use Rattle.std.specs.Prelude.{◌≡◌, [], ◌∷◌, ℕ, ◌+◌, ◌≤◌, ◌<◌}
use Rattle.std.proofs.Common.{◌∙◌}
use Rattle.std.proofs.Math.Decide.{ℕ_discrete}
use Rattle.history.specs.History.{History, count}

-- every task has done all its entries
abbrev pub AllDone : (ℕ → ℕ) → History → Type 0
AllDone done h = (t : ℕ) → count t h ≤ done t
