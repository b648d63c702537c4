-- What a row leaves in Done, Seen, Took and Last (document 01, "other effects"), as one record of equations; and when such a change keeps
-- other cells covered.
use Rattle.std.specs.Prelude.{◌≡◌, ℕ, ◌+◌, ◌≤◌, ◌<◌}
use Rattle.std.proofs.Math.Decide.{ℕ_discrete}
use Rattle.tracker.specs.State.{done_of, seen_of, took_of}
use Rattle.tracker.specs.Next.{Effect}
use Rattle.tracker.specs.declared.State.{State}

pub record Leaves (s : State) (task : ℕ) (effect : Effect) (after : State) : Type 0 where
  pub tasks : after.tasks ≡ s.tasks
  pub done : done_of after task ≡ done_of s task + 1
  pub seen : seen_of after task ≡ effect.seen
  pub took : took_of after task ≡ effect.took
  pub last : after.last ≡ effect.last
  pub other_done : (other : ℕ) → (other ≡ task → ⊥) → done_of after other ≡ done_of s other
  pub other_seen : (other : ℕ) → (other ≡ task → ⊥) → seen_of after other ≡ seen_of s other
  pub other_took : (other : ℕ) → (other ≡ task → ⊥) → took_of after other ≡ took_of s other
