-- The lowest task that has accesses left: one pass of the search, and what it finds.
use Rattle.std.specs.Prelude.{Option, Some, None, ◌≡◌, true, false, List}
use Prim.Native.Nat.{ℕ, ◌+◌, ◌<◌}
use Rattle.pending.specs.declared.Run.{Run}
use Rattle.pending.specs.Unmet.{unmet_next}
use Rattle.replayer.specs.ReadyOf.{has_left}
use Rattle.playability.specs.declared.hold.Held.{Held}
use Rattle.playability.specs.Hold.{offset_in}

-- what is found among the n tasks from i on
pub data HoldIs (b : List ℕ) (r : Run) (i n : ℕ) (k : Option Held) : Type 0 where
  held : (t : ℕ) → t < n → has_left r (i + t) ≡ true → ((u : ℕ) → u < t → has_left r (i + u) ≡ false) → k ≡ Some (record { task = i + t; offset = offset_in (unmet_next r b (i + t)) }) → HoldIs b r i n k
  free : ((u : ℕ) → u < n → has_left r (i + u) ≡ false) → k ≡ None → HoldIs b r i n k
