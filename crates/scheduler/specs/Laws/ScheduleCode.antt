-- The loop that writes the order: what has been written, followed by what is still to come, is the order.
use Rattle.std.specs.Prelude.{◌≡◌, List, ℕ, ◌+◌, ◌-◌, ◌≤◌}
use Rattle.std.proofs.Math.ListN.{length}
use Rattle.codec.specs.Store.{store}
use Rattle.pending.specs.declared.Run.{Run}
use Rattle.scheduler.specs.Schedule.{schedule_from}

-- a buffer and the run after n steps, compared with those at the start
pub record Writing (b : List ℕ) (out₀ : List ℕ) (r₀ : Run) (out : List ℕ) (r : Run) (n : ℕ) : Type 0 where
  pub within : n ≤ length out
  pub long : length out ≡ length out₀
  pub count : n + length (schedule_from (length out - n) b r) ≡ length (schedule_from (length out₀) b r₀)
  pub whole : store out n (schedule_from (length out - n) b r) ≡ store out₀ 0 (schedule_from (length out₀) b r₀)

-- what the call answers
abbrev pub Wrote : List ℕ → List ℕ → Run → List ℕ → ℕ → Type 0
Wrote b out₀ r₀ out n = (n ≡ length (schedule_from (length out₀) b r₀)) × (out ≡ store out₀ 0 (schedule_from (length out₀) b r₀))
