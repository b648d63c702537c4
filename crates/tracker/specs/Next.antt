-- The state after an access (document 01, columns "New state" and "other effects").
use Rattle.std.specs.Prelude.{Bool, ℕ, ◌+◌, set}
use Rattle.codec.specs.declared.Position.{Position}
use Rattle.tracker.specs.State.{done_of, seen_of, took_of, locality_of, position}
use Rattle.tracker.specs.Row.{row_at}
use Rattle.tracker.specs.declared.Locality.{Locality}
use Rattle.tracker.specs.declared.Locality.TheVariants.{WriteExclusive, ReadExclusive, ReadShared}
use Rattle.tracker.specs.declared.Row.{Row}
use Rattle.tracker.specs.declared.Row.TheVariants.{One, Two, Three, Four, Five, Six, Seven, Eight, Nine, Ten}
use Rattle.tracker.specs.declared.State.{State}

-- the cell's new state; `task` is T2
unfoldable pub locality_after : Row → State → ℕ → Locality → Locality
locality_after One s task l = l
locality_after Two s task l = l
locality_after Three s task l = l
locality_after Four s task l = WriteExclusive task
locality_after Five s task l = ReadShared (s.shares + 1)
locality_after Six s task l = l
locality_after Seven s task l = WriteExclusive task
locality_after Eight s task l = ReadExclusive task
locality_after Nine s task l = WriteExclusive task
locality_after Ten s task l = WriteExclusive task

-- what a row sets in Seen(T2), Took(T2), G and Last
pub record Effect : Type 0 where
  pub seen : ℕ
  pub took : ℕ
  pub shares : ℕ
  pub last : Position

abbrev pub unchanged : State → ℕ → Effect
unchanged s task = record { seen = seen_of s task; took = took_of s task; shares = s.shares; last = s.last }

-- k, the access's number
abbrev pub number_now : State → ℕ → ℕ
number_now s task = done_of s task + 1

-- row 5 makes share G + 1 at (T2, k), row 6 sets Seen to G (document 02, F-1), and row 8 keeps k
unfoldable pub effect_of : Row → State → ℕ → Locality → Effect
effect_of One s task l = unchanged s task
effect_of Two s task l = unchanged s task
effect_of Three s task l = unchanged s task
effect_of Four s task l = unchanged s task
effect_of Five s task l = record {
  seen = s.shares + 1;
  took = took_of s task;
  shares = s.shares + 1;
  last = position task (number_now s task);
}
effect_of Six s task l = record {
  seen = s.shares;
  took = took_of s task;
  shares = s.shares;
  last = s.last;
}
effect_of Seven s task l = unchanged s task
effect_of Eight s task l = record {
  seen = seen_of s task;
  took = number_now s task;
  shares = s.shares;
  last = s.last;
}
effect_of Nine s task l = unchanged s task
effect_of Ten s task l = unchanged s task

-- sets the cell's record, the task's entries, G and Last; Done grows by one for that task only
abbrev pub stepped : State → ℕ → ℕ → Locality → Effect → State
stepped s task cell l e = record {
  tasks = s.tasks;
  objects = s.objects;
  fields = s.fields;
  cells = set s.cells cell (record { locality = l });
  done = set s.done task (number_now s task);
  seen = set s.seen task e.seen;
  took = set s.took task e.took;
  shares = e.shares;
  last = e.last;
}

-- the state after an access by the table
unfoldable pub state_after : State → ℕ → ℕ → Bool → State
state_after s task cell write =
    stepped s task cell (locality_after (row_at s task cell write) s task (locality_of s cell))
    (effect_of (row_at s task cell write) s task (locality_of s cell))
