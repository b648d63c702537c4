-- DEMAND 3, the claim about whole runs (document 01, "Whole runs"), as one statement over two lists: any calls of `access` from an
-- accepted opening, with fields or without (document 02, F-6), and any steps from an accepted replay opening of their recording. No proof is in
-- this file.
use Rattle.std.specs.Prelude.{Ok, true, false, List, ◌↔◌, ◌⊎◌, ◌≡◌, ℕ, suc, ◌≤◌, ◌<◌, length, get_or}
use Rattle.codec.specs.Kind.{access_kind}
use Rattle.codec.specs.Number.{no_task, finished, held}
use Rattle.reader.specs.Calls.{checked_of}
use Rattle.reader.specs.Parse.{Parsed, parse}
use Rattle.history.specs.Entry.{Act, read, write, acquire, Entry}
use Rattle.history.specs.History.{History}
use Rattle.history.specs.Access.{Access}
use Rattle.history.specs.Memory.{memory_of}
use Rattle.history.specs.Ready.{Ready}
use Rattle.history.specs.Replay.{recorded_order}
use Rattle.sections.specs.SectionOf.{section_of}
use Rattle.replayer.specs.declared.Stepped.{Stepped}
use Rattle.replayer.specs.OpenOf.{open_of}
use Rattle.replayer.specs.ReadyOf.{ready_of}
use Rattle.replayer.specs.Word.{has_bit}
use Rattle.fidelity.specs.Box.{Opening, opened_by, Asked, calls_of, first_box, last_box, recorded, fed, reference_memory, reference_values, answers_from, recording_of, recording_by, cells_by}
use Rattle.fidelity.specs.Bench.{Bench, bench_of, answer_of, stepped, stepped_all, takes, tally, tally_of, AllTaken}
use Rattle.codec.specs.Cell.{object_at, field_at}

-- what is assumed: the opening, the sections and the replay opening answered 0. Nothing is assumed about the calls or the steps
pub record Accepted (o : Opening) (asked : List Asked) (outs : ℕ → List ℕ) (memory : List ℕ) : Type 0 where
  pub opened : (opened_by o).answer.number ≡ 0
  pub packed : (t : ℕ) → t < o.tasks → (section_of (last_box o asked).state t ((last_box o asked).logs t) (outs t)).answer.number ≡ 0
  pub replayed : (open_of (recording_of o asked outs) memory).answer.number ≡ 0

-- a step shows an act: its kind under the head, the object and the field that are its cell, and its value
abbrev pub Shows : ℕ → Stepped → Act → Type 0
Shows fields a (read cell value) =
    (a.kind ≡ access_kind fields false) × (a.object ≡ object_at fields cell) × (a.field ≡ field_at fields cell) × (a.value ≡ value)
Shows fields a (write cell value) =
    (a.kind ≡ access_kind fields true) × (a.object ≡ object_at fields cell) × (a.field ≡ field_at fields cell) × (a.value ≡ value)
Shows fields a (acquire number) = ⊥

-- why a step is not taken: no such task, no accesses left, held up by an ordering
abbrev pub RefusedBy : ℕ → Type 0
RefusedBy number = (number ≡ no_task) ⊎ (number ≡ finished) ⊎ (number ≡ held)

module _ (o : Opening) (asked : List Asked) (outs : ℕ → List ℕ) (memory : List ℕ) where
  -- the recorded accesses, newest first, and the recording
  abbrev pub history : History
  history = recorded o asked

  abbrev pub bytes : List ℕ
  bytes = recording_of o asked outs

  -- the bench after a list of steps, and how many accesses each task has done by then: the number of its steps that were taken
  abbrev pub after : List ℕ → Bench
  after steps = stepped_all bytes (bench_of bytes memory) steps

  abbrev pub done : List ℕ → ℕ → ℕ
  done steps t = tally_of t bytes (bench_of bytes memory) steps

  -- what 3 and 6 below say about one place. They have names because `Laws/RunA` computes them on a run and shows that a sham's values are
  -- wrong there
  abbrev pub StaysAt : List ℕ → ℕ → Type 0
  StaysAt steps t = stepped bytes (after steps) t ≡ after steps

  abbrev pub MemoryAt : List ℕ → ℕ → Type 0
  MemoryAt steps c = get_or (after steps).memory c 0 ≡ memory_of (λ x. get_or o.starts x 0) (done steps) history c

  pub record Faithful : Type 0 where
    -- 1. Each access answers the reference memory's value, and the recorder's memory ends equal to it.
    pub answers_reference : answers_from (first_box o) (calls_of asked) ≡ reference_values o.starts (fed o asked)
    pub memory_reference : (last_box o asked).memory ≡ reference_memory o.starts (fed o asked)
    -- The state keeps the opening's number of fields, by which a call's object and field are a cell.
    pub fields_stay : (last_box o asked).state.fields ≡ o.fields
    -- 2. The reader accepts the recording and reads it back as what was recorded: T, the number of fields, the owners, the starting values,
    -- and each task's accepted accesses with their orderings.
    pub reader_takes : checked_of (parse bytes) ≡ Ok tt
    pub reads_back : (p : Parsed) × (parse bytes ≡ Ok p) × (p.recording ≡ recording_by o asked)
    -- 3. A step is taken exactly when its task is ready: it has accesses left, and every ordering before its next one is met. A step that
    -- is not taken leaves the run and the memory as they were, and gives 5, 15 or 16 and nothing else: the memory agrees with every read's
    -- record, in any allowed order (document 02, F-3).
    pub taken_when_ready : (steps : List ℕ) (t : ℕ) → (takes bytes (after steps) t ≡ true) ↔ Ready history (done steps) t
    pub refused_changes_nothing : (steps : List ℕ) (t : ℕ) → takes bytes (after steps) t ≡ false → StaysAt steps t
    pub refused_by : (steps : List ℕ) (t : ℕ) → takes bytes (after steps) t ≡ false → RefusedBy (answer_of bytes (after steps) t).number
    -- 4. A task's k-th taken step answers number k and the kind, object, field and value of its accepted access k.
    pub answers_recorded : (steps : List ℕ) (t : ℕ) → takes bytes (after steps) t ≡ true
        → (e : Entry) × Access history t (suc (done steps t)) e
        × ((answer_of bytes (after steps) t).access ≡ suc (done steps t)) × Shows o.fields (answer_of bytes (after steps) t) e.act
    -- 5. At the start and after every step the ready word has exactly the bits of the ready tasks.
    pub word_sound : (steps : List ℕ) → (ready_of (after steps).run bytes).number ≡ 0
    pub word_ready : (steps : List ℕ) (t : ℕ) → (has_bit (ready_of (after steps).run bytes).word t ≡ true) ↔ Ready history (done steps) t
    -- 6. At the start and after every step each cell of memory holds its starting value or the latest write among the accesses done.
    pub memory_entries : (steps : List ℕ) → length (after steps).memory ≡ cells_by o
    pub memory_of_writes : (steps : List ℕ) (c : ℕ) → c < cells_by o → MemoryAt steps c
    -- 7. At most as many steps are taken as accesses were accepted; the ready word is 0 exactly when that many were taken, and memory is
    -- then the box's.
    pub never_more : (steps : List ℕ) → tally bytes (bench_of bytes memory) steps ≤ length history
    pub stops_at_end : (steps : List ℕ) → ((ready_of (after steps).run bytes).word ≡ 0) ↔ (tally bytes (bench_of bytes memory) steps ≡ length history)
    pub end_memory : (steps : List ℕ) → tally bytes (bench_of bytes memory) steps ≡ length history → (after steps).memory ≡ (last_box o asked).memory
    -- 8. The recorded order, which is the tasks of the accepted accesses in call order, is taken completely.
    pub takes_recorded_order : AllTaken bytes (bench_of bytes memory) (recorded_order history)
