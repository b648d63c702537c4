-- What holds up an access (document 01, "Whole runs": "(S, s) is met once S has done s or more"): the first unmet ordering before it,
-- with the offset of its record.
use Rattle.std.specs.Prelude.{Err, Ok, cond, List, [], ◌∷◌, ℕ, ◌+◌, leb}
use Rattle.codec.specs.declared.Position.{Position}
use Rattle.codec.specs.Kind.{ordering_kind, length_of}
use Rattle.entries.specs.Reading.{Reading}
use Rattle.entries.specs.Recording.{Entry}
use Rattle.pending.specs.declared.TaskRun.{TaskRun}
use Rattle.pending.specs.declared.Run.{Run}
use Rattle.pending.specs.Next.{entry_next}
use Rattle.pending.specs.Run.{task_at, done_of}

-- all are met; or the offset of the first unmet one, and that ordering
pub data Unmet : Type 0 where
  none : Unmet
  first : ℕ → Position → Unmet

-- for orderings stored one after another, the first of them at an offset
unfoldable pub unmet_of : List TaskRun → ℕ → List Position → Unmet
unmet_of runs at [] = none
unmet_of runs at (p ∷ ps) = cond (leb p.number (done_of runs p.task)) (unmet_of runs (at + length_of ordering_kind) ps) (first at p)

-- for an entry that starts at an offset
unfoldable pub unmet_in : List TaskRun → ℕ → Reading Entry → Unmet
unmet_in runs at (Err c) = none
unmet_in runs at (Ok e) = unmet_of runs at e.orderings

-- for a task's next entry
unfoldable pub unmet_next : Run → List ℕ → ℕ → Unmet
unmet_next r b t = unmet_in r.runs (task_at r.runs t).place (entry_next r b t)
