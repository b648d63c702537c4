-- Facts about an access that may be done: it was read from the task's place, its object is below N, and it ends within the body.
use Rattle.std.specs.Prelude.{Ok, ◌≡◌, true, List, ℕ, ◌+◌}
use Rattle.entries.specs.Reading.{Reading}
use Rattle.codec.specs.declared.Op.{Op}
use Rattle.entries.specs.Bytes.{entry_length}
use Rattle.entries.specs.Recording.{Entry}
use Rattle.pending.specs.declared.TaskRun.{TaskRun}
use Rattle.pending.specs.Met.{all_met}

-- the entry of an access that may be done
pub record OpenEntry (runs : List TaskRun) (at : ℕ) (x : Reading Entry) (o : Op) (n : ℕ) : Type 0 where
  pub entry : Entry
  pub reads : x ≡ Ok entry
  pub met : all_met runs entry.orderings ≡ true
  pub op : o ≡ entry.op
  pub next : n ≡ at + entry_length entry
