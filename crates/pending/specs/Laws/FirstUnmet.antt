-- Laws of `FirstUnmet`.
use Rattle.std.specs.Prelude.{Ok, None, List, ℕ, ◌+◌, ◌≤◌, ◌<◌, length, get_or}
use Rattle.codec.specs.declared.Position.{Position}
use Rattle.codec.specs.Limit.{max_tasks}
use Rattle.entries.specs.declared.Limits.{Limits}
use Rattle.pending.specs.Look.{group_at, Looks}
use Rattle.pending.specs.FirstUnmet.{Ahead, Holds}
use Rattle.pending.specs.Unmet.{first}

-- an ordering is at an offset: if it is met the scan goes on, if not it holds up the task
pub record Passing (m : Limits) (b dones : List ℕ) (from end place at : ℕ) (p : Position) : Type 0 where
  pub room : place + 8 ≤ length b
  pub below : p.task < max_tasks
  pub met : p.number ≤ get_or dones p.task 0 → Ahead m b dones from end (place + 8) at
  pub unmet : get_or dones p.task 0 < p.number → Looks dones from (group_at m b from end) (Ok None)
  pub here : get_or dones p.task 0 < p.number → Holds m b dones from end (first place p)
