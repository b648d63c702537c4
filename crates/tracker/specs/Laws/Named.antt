-- What the written orderings of an accepted access name; and row 10 names every other task, whether or not it read.
use Rattle.std.specs.Prelude.{◌≡◌, ℕ, ◌≤◌, ◌<◌}
use mathlib.Core.List.Memᴰ
use mathlib.Core.List.{[], ◌∷◌}
use Rattle.std.proofs.Math.Logic.{⊎_elim}
use Rattle.codec.specs.declared.Position.{Position}
use Rattle.tracker.specs.State.{done_of}
use Rattle.tracker.specs.declared.State.{State}

-- an ordering points at an access that another task has made
pub record Names (s : State) (task : ℕ) (p : Position) : Type 0 where
  pub task_low : p.task < s.tasks
  pub other : p.task ≡ task → ⊥
  pub some : 1 ≤ p.number
  pub reached : p.number ≤ done_of s p.task
