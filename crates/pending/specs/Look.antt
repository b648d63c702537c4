-- What looking at a task's next group finds: what is next for the task, by the accesses done.
use Rattle.std.specs.Prelude.{◌≡◌, Bool, List, ℕ}
use Rattle.codec.specs.declared.number.Reason.TheVariants.{InBody}
use Rattle.entries.specs.declared.Limits.{Limits}
use Rattle.entries.specs.Entry.{entry_at}
use Rattle.entries.specs.Part.{part}
use Rattle.entries.specs.Reading.{Reading, stop}
use Rattle.entries.specs.Recording.{Entry}
use Rattle.pending.specs.declared.TaskRun.{TaskRun}
use Rattle.pending.specs.Dones.{dones_of}
use Rattle.pending.specs.Next.{Next, judged, is_open}

-- the group that is read from an offset, up to the body's end
abbrev pub group_at : Limits → List ℕ → ℕ → ℕ → Reading Entry
group_at m b place end = entry_at m (stop InBody place) place (part place end b)

-- a group that starts at an offset, compared with the accesses done
abbrev pub Looks : List ℕ → ℕ → Reading Entry → Next → Type 0
Looks dones from x n = (runs : List TaskRun) → dones_of runs ≡ dones → n ≡ judged runs from x

-- whether that is an access which may be done
abbrev pub Opens : List ℕ → ℕ → Reading Entry → Bool → Type 0
Opens dones from x r = (runs : List TaskRun) → dones_of runs ≡ dones → r ≡ is_open (judged runs from x)
