-- After the last step of a recording whose play no 19 stopped, no task is ready, and each task that has accesses left has its line. The
-- access that it waits for comes in no allowed order.
use Rattle.std.specs.Prelude.{◌≡◌, true, List, ℕ, ◌<◌}
use Rattle.codec.specs.declared.Position.{Position}
use Rattle.entries.specs.Recording.{Entry}
use Rattle.pending.specs.declared.Run.{Run}
use Rattle.pending.specs.Unmet.{first, unmet_next}
use Rattle.playability.specs.Order.{times, Allowed}
use Rattle.replayer.specs.ReadyOf.{has_left}
use Rattle.waits.specs.Laws.WaitsEach.{Waiting}

-- the run that the steps of a recording lead to
abbrev pub ReasonEach : List ℕ → Run → Type 0
ReasonEach b r = (t : ℕ) → t < r.tasks → has_left r t ≡ true → Waiting b r t

abbrev pub NeverComes : List ℕ → List (List Entry) → Run → Type 0
NeverComes b bodies r =
    (t : ℕ) → t < r.tasks → has_left r t ≡ true → (place : ℕ) (q : Position) → unmet_next r b t ≡ first place q → (order : List ℕ) → Allowed bodies order → times q.task order < q.number
