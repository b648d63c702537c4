-- The recorder's side of demand 3: after any calls from an accepted opening the recording reads as the history of the accepted accesses,
-- and the box's memory is that history's reference memory.
use Rattle.std.specs.Prelude.{Ok, List, ◌≡◌, refl, ℕ, ◌+◌, ◌≤◌, ◌<◌, length, get_or, take}
use Rattle.std.proofs.Common.{sym, ◌∙◌, arith}
use Rattle.codec.specs.Encode.{head}
use Rattle.codec.specs.Laws.Encode.{head-length}
use Rattle.codec.specs.Laws.Store.{store-front}
use Rattle.codec.specs.Head.{head_length}
use Rattle.entries.specs.Bytes.{bytes_of}
use Rattle.reader.specs.Parse.{Parsed, parse}
use Rattle.reader.specs.Range.{HeadIn, InRange}
use Rattle.reader.specs.Laws.Roundtrip.{parse_back, spans_of}
use Rattle.history.specs.Memory.{reference}
use Rattle.tracker.proofs.Laws.Tracks.{tracks_sound, tracks_tasks, tracks_memory}
use Rattle.sections.specs.SectionOf.{section_of}
use Rattle.fidelity.specs.Box.{Opening, opened_by, Asked, last_box, recorded, recording_of, recording_by, cells_by}
use Rattle.fidelity.specs.Laws.FirstBox.{start_of}
use Rattle.fidelity.proofs.Laws.FirstBox.{opening_facts, owners_under, opening-is, follows_last}
use Rattle.fidelity.specs.Laws.Follows.{Follows}
use Rattle.fidelity.specs.Laws.Matches.{Matches}
use Rattle.fidelity.proofs.Laws.Packed.{bodies-length, bodies-at, section-accepted, bodies_in, packed-is}
use Rattle.codec.specs.Cell.{cells_of}
use Rattle.fidelity.specs.Laws.BoxMatches.{parsed_by}

module _ (o : Opening) (accepted : (opened_by o).answer.number ≡ 0) where
  pub owner_each : length o.owners ≡ o.objects
  owner_each = (opening_facts o accepted).owner_each

  -- as many cells as the recording has
  pub cells_each : cells_of o.fields (length o.owners) ≡ cells_by o
  cells_each = rw owner_each

  head_in : HeadIn o.tasks o.fields o.owners o.starts
  head_in = record {
    some_tasks = (opening_facts o accepted).some_tasks;
    few_tasks = (opening_facts o accepted).few_tasks;
    few_fields = (opening_facts o accepted).few_fields;
    some_objects = rw owner_each (opening_facts o accepted).some_objects;
    few_objects = rw owner_each (opening_facts o accepted).few_objects;
    owners_in = owners_under o accepted;
    value_each = rw owner_each (opening_facts o accepted).start_each;
    values_in = o.fits;
  }

  head_wrote : take (opened_by o).answer.written (opened_by o).out ≡ head o.fields o.tasks o.owners o.starts
  head_wrote = rw (opening-is o accepted) (store-front o.out (head o.fields o.tasks o.owners o.starts) (head_length o.fields o.objects)
      (rw owner_each at (head-length o.fields o.tasks o.owners o.starts head_in.value_each)) (opening_facts o accepted).room)

  module _ (asked : List Asked) where
    follows : Follows (start_of o) o.tasks o.objects o.fields (last_box o asked) (recorded o asked)
    follows = follows_last o accepted asked

    pub in_range : InRange (recording_by o asked)
    in_range = record {
      head = head_in;
      body_each = bodies-length o.fields (recorded o asked) 0 o.tasks;
      bodies = rw owner_each (bodies_in follows 0 o.tasks (omega arith));
    }

    -- the box's memory is the history's reference memory
    pub box-memory : (c : ℕ) → get_or (last_box o asked).memory c 0 ≡ reference (start_of o) (recorded o asked) c
    box-memory = tracks_memory follows.tracks

    -- the state keeps the opening's number of fields
    pub fields_stay : (last_box o asked).state.fields ≡ o.fields
    fields_stay = follows.fields_are

    pub memory_each : length (last_box o asked).memory ≡ cells_by o
    memory_each = follows.memory_each

    -- with outputs long enough no section is refused
    pub sections_accepted : (t : ℕ) → t < o.tasks → (out : List ℕ) → 12 + length ((last_box o asked).logs t) ≤ length out
        → (section_of (last_box o asked).state t ((last_box o asked).logs t) out).answer.number ≡ 0
    sections_accepted t low out room = section-accepted follows t low out room

    module _ (outs : ℕ → List ℕ)
        (sections : (t : ℕ) → t < o.tasks → (section_of (last_box o asked).state t ((last_box o asked).logs t) (outs t)).answer.number ≡ 0) where
      pub recording-bytes : recording_of o asked outs ≡ bytes_of (recording_by o asked)
      unfolding bytes_of
      recording-bytes = rw (head_wrote, packed-is follows outs sections 0 o.tasks (omega arith))

      pub recording-parsed : parse (recording_of o asked outs) ≡ Ok (parsed_by o asked)
      recording-parsed = rw recording-bytes (parse_back (recording_by o asked) in_range)

      pub box_matches : Matches (start_of o) (recorded o asked) (recording_of o asked outs) (parsed_by o asked)
      box_matches = record {
        reads = recording-parsed;
        sound = tracks_sound follows.tracks;
        tasks_low = λ a. rw follows.tasks_are at (tracks_tasks follows.tracks a);
        recordable = λ a. follows.recordable a;
        bodies = λ t low. let e : 0 + t ≡ t = omega arith in rw e at (bodies-at o.fields (recorded o asked) 0 o.tasks t low);
        values = λ c low. refl;
      }
