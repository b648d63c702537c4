-- What holds a run up (document 02, F-2: "the lowest task that has accesses left and stays held, with the offset of its first unmet
-- ordering").
use Rattle.std.specs.Prelude.{Option, Some, None, cond, List, ℕ, zero, suc}
use Rattle.playability.specs.declared.hold.Held.{Held}
use Rattle.pending.specs.declared.Run.{Run}
use Rattle.pending.specs.Unmet.{Unmet, none, first, unmet_next}
use Rattle.replayer.specs.ReadyOf.{has_left}

-- the offset of an unmet ordering, 0 if there is none
abbrev pub offset_in : Unmet → ℕ
offset_in none = 0
offset_in (first at p) = at

-- among the n tasks from i on, and among all
unfoldable pub hold_from : List ℕ → Run → ℕ → ℕ → Option Held
hold_from b r i zero = None
hold_from b r i (suc n) = cond (has_left r i) (Some (record { task = i; offset = offset_in (unmet_next r b i) })) (hold_from b r (suc i) n)

abbrev pub hold_of : List ℕ → Run → Option Held
hold_of b r = hold_from b r 0 r.tasks
