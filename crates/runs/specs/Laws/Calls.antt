-- Laws of `Calls`.
use Rattle.std.specs.Prelude.{refl}
use Rattle.codec.specs.Encode.{start, start_two, value_bytes, head_object, head_objects, fields_bytes, head_front, head, section, ordering, access}
use Rattle.codec.specs.Field.{le2, le4, field2, field4}
use Rattle.codec.specs.Kind.{is_head, has_field, stores_value, stands_under, access_kind, head_kind_of}
use Rattle.codec.specs.Decode.{record_of, width_at, head_of, section_of as section_record_of, op_at, body_of}
use Rattle.codec.specs.Store.{store}
use Rattle.codec.specs.Cell.{width_of, cells_of, cell_of, object_at}
use Rattle.codec.specs.Head.{head_step, head_size, fields_of}
use Rattle.entries.specs.Bytes.{orderings_bytes, entry_bytes}
use Rattle.entries.specs.Entry.{ordering_ok, check_access, access_of as access_record_of, on_record, entry_from, entry_at as read_entry}
use Rattle.entries.specs.Body.{body_from, body_entries, tally, judged, walk_of}
use Rattle.reader.specs.Section.{taken, section_body, on_section, section_at, sections_of}
use Rattle.reader.specs.Parse.{owners_of, values_at, values_of, all_below, sizes_ok, on_head, head_at, sections_after, parse}
use Rattle.reader.specs.Calls.{checked_of}
use Rattle.tracker.specs.Class.{class_of}
use Rattle.tracker.specs.Next.{locality_after, effect_of, state_after}
use Rattle.tracker.specs.Opened.{owned_cells, opened_state}
use Rattle.tracker.specs.Orderings.{every_done, orderings_of, left_out, written}
use Rattle.codec.specs.Limit.{is_within}
use Rattle.tracker.specs.Range.{all_below as all_pass}
use Rattle.tracker.specs.Row.{row_of}
use Rattle.tracker.specs.Sound.{last_sound, task_sound, tasks_sound, cell_sound, sound_of}
use Rattle.tracker.specs.Sum.{sum_of}
use Rattle.recorder.specs.AccessOf.{checked, access_number, accepted, refused, access_of}
use Rattle.opening.specs.OpenOf.{entries_ok, open_number, opened, open_by}
use Rattle.sections.specs.SectionOf.{log_checked, section_checked, section_of}
use Rattle.recorder.specs.WholeRun.{outcome, called, called_all, packed}
use Rattle.runs.specs.Calls.{Calls}

pub calls : Calls
unfolding open_by opened open_number entries_ok all_below opened_state owned_cells object_at cells_of cell_of width_of outcome called called_all packed access_of access_number checked accepted refused sound_of last_sound task_sound tasks_sound cell_sound sum_of is_within all_pass row_of orderings_of every_done written left_out state_after locality_after effect_of class_of store orderings_bytes entry_bytes ordering access access_kind has_field stores_value start start_two le2 le4 head_kind_of head_step head_size fields_of fields_bytes head_front head value_bytes head_object head_objects section section_of section_checked log_checked walk_of judged tally body_entries body_from read_entry entry_from on_record access_record_of check_access stands_under ordering_ok record_of is_head width_at head_of section_record_of op_at body_of field2 field4 checked_of parse head_at on_head sections_after sections_of section_at on_section section_body taken owners_of values_at values_of sizes_ok
calls = record {
  a_body_0 = refl;
  a_body_1 = refl;
  a_recording = refl;
  a_taken = refl;
  a_memory = refl;
  no_tasks = refl;
  many_tasks = refl;
  sixteen = refl;
  many_objects = refl;
  nine_bytes = refl;
  ten_bytes = refl;
}
