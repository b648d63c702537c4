-- Laws of `Full`.
use Rattle.std.specs.Prelude.{◌≡◌, refl, false, [], ◌∷◌, ℕ, zero, suc, ◌+◌, ◌≤◌, ◌<◌}
use Rattle.std.proofs.Common.{ap, ◌∙◌, arith, le-leb}
use Rattle.std.proofs.lemmas.Bool.{lt-leb}
use lib.ListN.{length, replicate}
use Rattle.reader.specs.Parse.{all_below}
use Rattle.tracker.specs.Laws.Facts.{Sound}
use Rattle.tracker.proofs.Laws.Facts.{sound_test}
use Rattle.tracker.proofs.Laws.Kept.{next_facts}
use Rattle.tracker.proofs.Laws.After.{next-tasks, next_cells, next_shaped, next-done}
use Rattle.tracker.specs.Opened.{opened_state}
use Rattle.tracker.proofs.Laws.Opened.{opened_facts, opened_shaped}
use Rattle.codec.specs.Cell.{width_of, cells_of}
use Rattle.codec.specs.Head.{head_step, head_size}
use Rattle.codec.specs.Kind.{head_kind_of}
use Rattle.codec.specs.Laws.Cell.{width_some, cell_below}
use Rattle.codec.specs.Limit.{is_within}
use Rattle.tracker.specs.Laws.State.{Shaped}
use Rattle.tracker.specs.State.{cell_count, done_of}
use Rattle.recorder.specs.AccessOf.{cell_at, checked, access_number, accepted, refused, access_of}
use Rattle.recorder.proofs.Laws.Accepted.{Takes, takes-accepted, entry_bound}
use Rattle.opening.specs.OpenOf.{entries_ok, open_number, opened, open_by}
use Rattle.recorder.specs.WholeRun.{Call, Box, outcome, called, called_all}
use Rattle.recorder.specs.Full.{again, opening, first, Full}
use Rattle.recorder.specs.Laws.Full.{Stands}

takes : (b : Box) (n : ℕ) → Stands b n → n < 65535 → Takes b.state 0 0 0 0 0 b.memory (replicate 140 0)
takes b n w h = record {
  facts = record {
    sound = w.sound;
    object_low = w.sound.some_object;
    field_low = width_some b.state.fields;
    accepts = record {
      task_low = omega (arith, w.tasks);
      cell_low = cell_below b.state.fields b.state.objects 0 0 w.sound.some_object (width_some b.state.fields);
      more = omega (arith, w.done);
    };
    sort_known = omega arith;
    memory_each = omega (arith, w.memory, w.cells);
  };
  room = omega (arith, entry_bound b.state 0 0 0 false (omega (arith, w.tasks)));
}

stands-more : (b : Box) (n : ℕ) → Stands b n → n < 65535 → Stands (called b again) (n + 1)
unfolding called outcome accepted
stands-more b n w h =
    let t = takes b n w h in
    let cell = cell_at b.state 0 0 in
    rw (takes-accepted b.state 0 0 0 0 0 b.memory (replicate 140 0) t) (record {
      sound = next_facts b.state 0 cell _ w.shaped w.sound t.facts.accepts;
      shaped = next_shaped b.state 0 cell _ w.shaped;
      tasks = next-tasks b.state 0 cell _ ∙ w.tasks;
      cells = next_cells b.state 0 cell _ ∙ w.cells;
      memory = w.memory;
      done = next-done b.state 0 cell _ w.shaped (omega arith) ∙ ap (λ (k : ℕ). k + 1) w.done;
    })

stands-all : (k n : ℕ) (b : Box) → Stands b n → n + k ≤ 65535 → Stands (called_all b (replicate k (Call.access again))) (n + k)
unfolding called_all
stands-all zero n b w h = let e : n + 0 ≡ n = omega arith in rw e w
stands-all (suc k) n b w h =
    let e : n + suc k ≡ n + 1 + k = omega arith in
    rw e (stands-all k (n + 1) (called b again) (stands-more b n w (omega arith)) (omega arith))

first_owner : (o : ℕ) → o < 1 → lib.ListN.get_or (0 ∷ []) o 0 < 1
first_owner zero h = omega arith
first_owner (suc o) h = absurd (omega arith)

taken : opening.answer.number ≡ 0
unfolding open_by opened open_number is_within entries_ok cells_of width_of all_below head_size head_step head_kind_of
taken = refl

first-is : first ≡ record { state = opened_state 1 1 0 (0 ∷ []); memory = 0 ∷ []; logs = λ t. [] }
unfolding open_by opened open_number is_within entries_ok cells_of width_of all_below head_size head_step head_kind_of
first-is = refl

first-stands : Stands first 0
unfolding opened_state cells_of width_of
first-stands = rw first-is (record {
  sound = opened_facts 1 1 0 (0 ∷ []) (record {
    some_task = omega arith;
    tasks_fit = omega arith;
    some_object = omega arith;
    objects_fit = omega arith;
    fields_fit = omega arith;
    owners_low = first_owner;
  });
  shaped = opened_shaped 1 1 0 (0 ∷ []);
  tasks = refl;
  cells = refl;
  memory = refl;
  done = refl;
})

taken_at : (b : Box) (n : ℕ) → Stands b n → n < 65535 → (outcome b again).answer.number ≡ 0
unfolding outcome accepted
taken_at b n w h = rw (takes-accepted b.state 0 0 0 0 0 b.memory (replicate 140 0) (takes b n w h))

eight_at : (b : Box) → Stands b 65535 → (outcome b again).answer.number ≡ 8
unfolding outcome access_of access_number checked refused
eight_at b w = rw (
  sound_test b.state w.sound,
  lt-leb b.state.tasks 0 (omega (arith, w.tasks)),
  lt-leb b.state.objects 0 w.sound.some_object,
  lt-leb (width_of b.state.fields) 0 (width_some b.state.fields),
  le-leb 65535 (done_of b.state 0) (omega (arith, w.done)),
)

pub full-run : Full
full-run = record {
  opening_taken = taken;
  last_taken = taken_at (called_all first (replicate 65534 (Call.access again))) 65534 (stands-all 65534 0 first first-stands (omega arith)) (omega arith);
  next_eight = eight_at (called_all first (replicate 65535 (Call.access again))) (stands-all 65535 0 first first-stands (omega arith));
}
