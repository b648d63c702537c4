-- The recorded order (document 01, "Whole runs"), which is the tasks of the entries from the oldest on, is taken completely: at each step
-- the counts are those of the box at that moment, so the next entry's task is ready.
use Rattle.std.specs.Prelude.{◌≡◌}
use mathlib.Core.List.{[], ◌∷◌, ◌++◌}
use Prim.Native.Nat.{ℕ}
use Rattle.history.specs.History.{History, At}

-- g is the history as it was at some moment
abbrev pub Past : History → History → Type 0
Past h [] = Unit {0}
Past h (e ∷ g) = At e g h
