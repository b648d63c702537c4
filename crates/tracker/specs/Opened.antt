-- The state after opening (document 01: "Opening makes each object write-held by its owner"; document 02, F-6: its cells are "all first held
-- by the object's owner"; everything else is 0).
use Rattle.std.specs.Prelude.{List, ℕ, zero, suc, get_or, set, replicate}
use Rattle.codec.specs.Cell.{cells_of, object_at}
use Rattle.codec.specs.Limit.{max_tasks, max_cells}
use Rattle.tracker.specs.State.{owned, nowhere}
use Rattle.tracker.specs.declared.CellRecord.{CellRecord}
use Rattle.tracker.specs.declared.State.{State}

-- the owner of a cell's object
abbrev pub owner_of : List ℕ → ℕ → ℕ → ℕ
owner_of owners fields cell = get_or owners (object_at fields cell) 0

-- the first n cells have their owners, and the others are blank
unfoldable pub owned_cells : List ℕ → ℕ → ℕ → List CellRecord
owned_cells owners fields zero = replicate max_cells (owned 0)
owned_cells owners fields (suc n) = set (owned_cells owners fields n) n (owned (owner_of owners fields n))

unfoldable pub opened_state : ℕ → ℕ → ℕ → List ℕ → State
opened_state tasks objects fields owners = record {
  tasks = tasks;
  objects = objects;
  fields = fields;
  cells = owned_cells owners fields (cells_of fields objects);
  done = replicate max_tasks 0;
  seen = replicate max_tasks 0;
  took = replicate max_tasks 0;
  shares = 0;
  last = nowhere;
}
