-- The statement's claims about memory, computed on run A at places where a sham (document 01, "Sham builds") would show other values.
use Rattle.std.specs.Prelude.{[], ◌∷◌, refl}
use Rattle.codec.specs.Decode.{record_of, head_of, section_of as section_of-codec-decode, body_of as body_of-codec-decode, width_at, op_at}
use Rattle.codec.specs.Encode.{ordering, access, start, start_two, head, head_object, head_objects, section, value_bytes, fields_bytes, head_front}
use Rattle.codec.specs.Field.{le2, le4, field2, field4}
use Rattle.codec.specs.Kind.{reads, writes, stores_value, is_valued_read, is_head, has_field, stands_under, access_kind, head_kind_of}
use Rattle.codec.specs.Store.{store}
use Rattle.entries.specs.Body.{walk_of, judged, tally, body_entries, body_from}
use Rattle.entries.specs.Bytes.{orderings_bytes, entry_bytes, body_bytes, sections_bytes, bytes_of}
use Rattle.reader.specs.Calls.{checked_of}
use Rattle.entries.specs.Entry.{entry_at, entry_from, on_record, access_of as access_of-reader-entry, ordering_ok, check_access}
use Rattle.reader.specs.Parse.{all_below, parse, head_at, on_head, sections_after, owners_of, values_of, sizes_ok, values_at}
use Rattle.entries.specs.Part.{part}
use Rattle.reader.specs.Section.{sections_of, section_at, on_section, section_body, taken}
use Rattle.recorder.specs.AccessOf.{access_of, access_number, checked, accepted, refused}
use Rattle.opening.specs.OpenOf.{opened, open_number, entries_ok, open_by}
use Rattle.sections.specs.SectionOf.{section_of, section_checked, log_checked}
use Rattle.recorder.specs.WholeRun.{outcome, called, called_all, packed}
use Rattle.pending.specs.All.{all_from}
use Rattle.pending.specs.Met.{all_met}
use Rattle.pending.specs.Next.{entry_next, judged as judged-replayer-next, next_of as next_of-replayer-next}
use Rattle.replayer.specs.OpenOf.{starts_of, on_parse, open_of as open_of-replayer-openof}
use Rattle.replayer.specs.ReadyOf.{is_ready, ready_of}
use Rattle.pending.specs.Run.{moved_of}
use Rattle.pending.specs.Sound.{task_sound as task_sound-replayer-sound, sound_of as sound_of-replayer-sound}
use Rattle.replayer.specs.StepOf.{early_number, on_next, step_of}
use Rattle.replayer.specs.Word.{word_of}
use Rattle.tracker.specs.Class.{class_of}
use Rattle.tracker.specs.Next.{state_after, locality_after, effect_of}
use Rattle.tracker.specs.Opened.{opened_state, owned_cells}
use Rattle.tracker.specs.Orderings.{orderings_of, every_done, written, left_out}
use Rattle.codec.specs.Limit.{is_within}
use Rattle.tracker.specs.Range.{all_below as all_below-tracker-range}
use Rattle.tracker.specs.Row.{row_of}
use Rattle.tracker.specs.Sound.{sound_of, last_sound, task_sound, tasks_sound, cell_sound}
use Rattle.tracker.specs.Sum.{sum_of}
use Rattle.history.specs.History.{count}
use Rattle.history.specs.Memory.{memory_of}
use Rattle.history.specs.Replay.{recorded_order}
use Rattle.fidelity.specs.Box.{recorded_from}
use Rattle.fidelity.specs.Bench.{stepped_all, tally as tally_steps, tally_of}
use Rattle.fidelity.specs.RunA.{opening, calls, outs, lent}
use Rattle.fidelity.specs.Statement.{StaysAt, MemoryAt}
use Rattle.codec.specs.Cell.{width_of, cells_of, cell_of, object_at}
use Rattle.codec.specs.Head.{head_step, head_size, fields_of}
use Rattle.fidelity.specs.Laws.RunA.{Stood}

pub stood : Stood
unfolding open_by opened open_number entries_ok all_below opened_state owned_cells object_at cells_of cell_of width_of outcome called called_all packed access_of access_number checked accepted refused sound_of last_sound task_sound tasks_sound cell_sound sum_of is_within all_below-tracker-range row_of orderings_of every_done written left_out state_after locality_after effect_of class_of store orderings_bytes entry_bytes ordering access access_kind reads writes has_field stores_value is_valued_read start start_two le2 le4 head_kind_of head_step head_size fields_of fields_bytes head_front head value_bytes head_object head_objects section section_of section_checked log_checked walk_of judged tally body_entries body_from entry_at entry_from on_record access_of-reader-entry check_access stands_under ordering_ok record_of is_head width_at head_of section_of-codec-decode op_at body_of-codec-decode field2 field4 checked_of parse head_at on_head sections_after sections_of section_at on_section section_body taken owners_of values_at values_of sizes_ok body_bytes sections_bytes bytes_of part all_from task_sound-replayer-sound sound_of-replayer-sound all_met moved_of entry_next judged-replayer-next next_of-replayer-next word_of is_ready ready_of starts_of on_parse open_of-replayer-openof early_number on_next step_of recorded_from stepped_all tally_steps tally_of memory_of count recorded_order
stood = record { first = refl; second = refl; refused = refl }
