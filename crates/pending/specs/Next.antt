-- What is next for a task (document 01, "Replay"): the next access of its body with the orderings before it, read from the task's place
-- up to its body's end, with the run's T and N and the task itself as limits. The whole group is read before any ordering is compared.
use Rattle.std.specs.Prelude.{Option, Some, None, Err, Ok, Bool, true, false, cond, List, ℕ, ◌+◌}
use Rattle.codec.specs.declared.Op.{Op}
use Rattle.codec.specs.declared.number.Reason.TheVariants.{InBody}
use Rattle.entries.specs.Bytes.{entry_length}
use Rattle.entries.specs.Entry.{entry_at}
use Rattle.entries.specs.Part.{part}
use Rattle.entries.specs.Reading.{Reading, stop}
use Rattle.entries.specs.Recording.{Entry}
use Rattle.pending.specs.declared.TaskRun.{TaskRun}
use Rattle.pending.specs.declared.Run.{Run}
use Rattle.pending.specs.declared.next.Open.{Open}
use Rattle.pending.specs.Run.{task_at, limits_of}
use Rattle.pending.specs.Met.{all_met}

-- the next entry of a task
unfoldable pub entry_next : Run → List ℕ → ℕ → Reading Entry
entry_next r b t =
    entry_at (limits_of r t) (stop InBody (task_at r.runs t).place) (task_at r.runs t).place (part (task_at r.runs t).place (task_at r.runs t).end b)

-- an access that may be done, none where an ordering holds it up, or why the records are refused
abbrev pub Next : Type 0
Next = Reading (Option Open)

-- an access that may be done, with the place after it
abbrev pub may_go : Op → ℕ → Next
may_go o next = Ok (Some (record { op = o; next = next }))

-- an entry that starts at an offset, compared with the accesses done
unfoldable pub judged : List TaskRun → ℕ → Reading Entry → Next
judged runs at (Err c) = Err c
judged runs at (Ok e) = cond (all_met runs e.orderings) (may_go e.op (at + entry_length e)) (Ok None)

unfoldable pub next_of : Run → List ℕ → ℕ → Next
next_of r b t = judged r.runs (task_at r.runs t).place (entry_next r b t)

-- the access was read, and every ordering before it is met
abbrev pub is_open : Next → Bool
is_open (Ok (Some w)) = true
is_open (Ok None) = false
is_open (Err c) = false
