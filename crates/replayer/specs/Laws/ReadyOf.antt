-- The ready word of a sound run has exactly the ready tasks; the count and the lowest are theirs. The word of an unsound run is 0.
use Rattle.std.specs.Prelude.{◌≡◌, Bool, true, false, List, ℕ, ◌+◌, ◌≤◌, ◌<◌}
use Rattle.pending.specs.declared.Run.{Run}
use Rattle.codec.specs.Limit.{max_tasks}
use Rattle.replayer.specs.ReadyOf.{is_ready, ready_of}
use Rattle.replayer.specs.Word.{has_bit, count_of, ready_count, lowest_ready}

-- t is the index of the lowest of the n tests from i on that passes; or it is k, and none passes
pub data LowestIs (k : ℕ) (f : ℕ → Bool) (i n t : ℕ) : Type 0 where
  ready : t < n → f (i + t) ≡ true → ((s : ℕ) → s < t → f (i + s) ≡ false) → LowestIs k f i n t
  nowhere : t ≡ k → ((s : ℕ) → s < n → f (i + s) ≡ false) → LowestIs k f i n t

pub record ReadySet (r : Run) (b : List ℕ) : Type 0 where
  pub number : (ready_of r b).number ≡ 0
  pub bit : (t : ℕ) → t < r.tasks → has_bit (ready_of r b).word t ≡ is_ready r b t
  pub above : (t : ℕ) → r.tasks ≤ t → has_bit (ready_of r b).word t ≡ false
  pub count : ready_count (ready_of r b).word ≡ count_of (is_ready r b) 0 r.tasks
  pub lowest : LowestIs max_tasks (is_ready r b) 0 r.tasks (lowest_ready (ready_of r b).word)
