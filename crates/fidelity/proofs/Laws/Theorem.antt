-- DEMAND 3, proved: for all calls and all steps the replay is faithful. And its assumptions can be met: with enough output and memory no
-- section and no replay opening is refused.
use Rattle.std.specs.Prelude.{true, List, ◌≡◌, refl, ℕ, ◌+◌, ◌≤◌, ◌<◌, length}
use Rattle.std.proofs.Common.{sym, ap, ◌∙◌, ext_get_or}
use Rattle.pending.specs.Run.{done_of}
use Rattle.reader.specs.Calls.{checked_of}
use Rattle.scheduler.specs.Finish.{finished_of}
use Rattle.replayer.proofs.Laws.OpenOf.{open_accepts}
use Rattle.fidelity.specs.Bench.{tally, bench_of}
use Rattle.fidelity.specs.Box.{Opening, opened_by, Asked, last_box, recorded, recording_of, cells_by}
use Rattle.fidelity.specs.Laws.BoxMatches.{parsed_by}
use Rattle.fidelity.proofs.Laws.BoxMatches.{box-memory, memory_each, sections_accepted, recording-parsed, box_matches, cells_each, fields_stay}
use Rattle.fidelity.proofs.Laws.BoxReference.{answers_reference, memory_reference}
use Rattle.fidelity.specs.Laws.FirstBox.{start_of}
use Rattle.fidelity.specs.Laws.Matches.{Matches}
use Rattle.fidelity.proofs.Laws.Replayed.{sim, done-same, taken_when_ready, refused_changes_nothing, refused_by, answers_recorded, word_sound, word_ready, memory_of_writes, never_more, stops_at_end, end_memory, end-finished, memory_entries, takes_recorded_order}
use Rattle.fidelity.specs.Statement.{Accepted, after, done, Faithful}

module _ (o : Opening) (asked : List Asked) (outs : ℕ → List ℕ) (memory : List ℕ) (a : Accepted o asked outs memory) where
  matches : Matches (start_of o) (recorded o asked) (recording_of o asked outs) (parsed_by o asked)
  matches = box_matches o a.opened asked outs a.packed

  -- when all accesses are done, the replay's memory is the box's
  ends_equal : (steps : List ℕ) → tally (recording_of o asked outs) (bench_of (recording_of o asked outs) memory) steps ≡ length (recorded o asked)
      → (after o asked outs memory steps).memory ≡ (last_box o asked).memory
  ends_equal steps e =
      let n = memory_entries (start_of o) (recorded o asked) (recording_of o asked outs) (parsed_by o asked) matches memory a.replayed steps in
      ext_get_or 0 (after o asked outs memory steps).memory (last_box o asked).memory (n ∙ cells_each o a.opened ∙ sym (memory_each o a.opened asked))
      (λ c l. end_memory (start_of o) (recorded o asked) (recording_of o asked outs) (parsed_by o asked) matches memory a.replayed steps e c (rw n at l)
      ∙ sym (box-memory o a.opened asked c))

  entries : (steps : List ℕ) → length (after o asked outs memory steps).memory ≡ cells_by o
  entries steps = memory_entries (start_of o) (recorded o asked) (recording_of o asked outs) (parsed_by o asked) matches memory a.replayed steps ∙ cells_each o a.opened

  -- when all accesses are done, no task has any left
  pub run-finished : (steps : List ℕ) → tally (recording_of o asked outs) (bench_of (recording_of o asked outs) memory) steps ≡ length (recorded o asked)
      → finished_of (after o asked outs memory steps).run ≡ true
  run-finished steps e = end-finished (start_of o) (recorded o asked) (recording_of o asked outs) (parsed_by o asked) matches memory a.replayed steps e

  -- what a task has done is in the run
  pub run-done : (steps : List ℕ) (t : ℕ) → done_of (after o asked outs memory steps).run.runs t ≡ done o asked outs memory steps t
  run-done steps t =
      (sim (start_of o) (recorded o asked) (recording_of o asked outs) (parsed_by o asked) matches memory a.replayed steps).done t
      ∙ ap (λ (d : ℕ → ℕ). d t) (sym (done-same (start_of o) (recorded o asked) (recording_of o asked outs) (parsed_by o asked) matches memory a.replayed steps))

  pub demand-3 : Faithful o asked outs memory
  unfolding checked_of
  demand-3 = record {
    answers_reference = answers_reference o a.opened asked;
    memory_reference = memory_reference o a.opened asked;
    fields_stay = fields_stay o a.opened asked;
    reader_takes = rw (recording-parsed o a.opened asked outs a.packed);
    reads_back = (parsed_by o asked, recording-parsed o a.opened asked outs a.packed, refl);
    taken_when_ready = taken_when_ready (start_of o) (recorded o asked) (recording_of o asked outs) (parsed_by o asked) matches memory a.replayed;
    refused_changes_nothing = λ steps t. refused_changes_nothing (recording_of o asked outs) (after o asked outs memory steps) t;
    refused_by = refused_by (start_of o) (recorded o asked) (recording_of o asked outs) (parsed_by o asked) matches memory a.replayed;
    answers_recorded = answers_recorded (start_of o) (recorded o asked) (recording_of o asked outs) (parsed_by o asked) matches memory a.replayed;
    word_sound = word_sound (start_of o) (recorded o asked) (recording_of o asked outs) (parsed_by o asked) matches memory a.replayed;
    word_ready = word_ready (start_of o) (recorded o asked) (recording_of o asked outs) (parsed_by o asked) matches memory a.replayed;
    memory_entries = entries;
    memory_of_writes = λ steps c l. memory_of_writes (start_of o) (recorded o asked) (recording_of o asked outs) (parsed_by o asked) matches memory a.replayed steps c (rw (cells_each o a.opened) l);
    never_more = never_more (start_of o) (recorded o asked) (recording_of o asked outs) (parsed_by o asked) matches memory a.replayed;
    stops_at_end = stops_at_end (start_of o) (recorded o asked) (recording_of o asked outs) (parsed_by o asked) matches memory a.replayed;
    end_memory = ends_equal;
    takes_recorded_order = takes_recorded_order (start_of o) (recorded o asked) (recording_of o asked outs) (parsed_by o asked) matches memory a.replayed;
  }

-- with outputs that have room for the section record and the log, and a memory with an entry for each cell, everything is accepted
pub acceptance : (o : Opening) (asked : List Asked) (outs : ℕ → List ℕ) (memory : List ℕ) → (opened_by o).answer.number ≡ 0
    → ((t : ℕ) → t < o.tasks → 12 + length ((last_box o asked).logs t) ≤ length (outs t)) → length memory ≡ cells_by o → Accepted o asked outs memory
acceptance o asked outs memory z room each = record {
  opened = z;
  packed = λ t l. sections_accepted o z asked t l (outs t) (room t l);
  replayed = rw (open_accepts (recording_of o asked outs) memory (parsed_by o asked)
      (recording-parsed o z asked outs (λ t l. sections_accepted o z asked t l (outs t) (room t l))) (each ∙ sym (cells_each o z)));
}
