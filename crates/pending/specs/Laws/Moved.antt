-- What an accepted step changes in a run: one task's place and number of accesses done, and nothing else.
use Rattle.std.specs.Prelude.{◌≡◌, length}
use Rattle.codec.specs.Limit.{max_tasks}
use Rattle.pending.specs.declared.Run.{Run}

-- the list's length, which is fixed by the run's type
abbrev pub Shaped : Run → Type 0
Shaped r = length r.runs ≡ max_tasks
