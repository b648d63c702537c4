-- Laws of `Kinds`.
use Rattle.std.specs.Prelude.{refl}
use Rattle.codec.specs.Decode.{record_of, width_at, head_of, section_of, op_at, body_of}
use Rattle.codec.specs.Encode.{ordering, access, start, start_two, fields_bytes, head_front, head, value_bytes, head_object, head_objects, section}
use Rattle.codec.specs.Cell.{width_of, cells_of, cell_of}
use Rattle.codec.specs.Head.{head_step, head_size, fields_of}
use Rattle.codec.specs.Field.{le2, le4, field2, field4}
use Rattle.codec.specs.Kind.{is_head, reads, writes, has_field, stores_value, is_valued_read, stands_under, head_kind_of}
use Rattle.codec.specs.Limit.{is_within}
use Rattle.entries.specs.Body.{body_entries, body_from}
use Rattle.entries.specs.Bytes.{orderings_bytes, entry_bytes, body_bytes, sections_bytes, bytes_of}
use Rattle.entries.specs.Entry.{entry_at, entry_from, on_record, access_of, check_access, ordering_ok}
use Rattle.entries.specs.Part.{part}
use Rattle.entries.specs.Records.{body_records, sections_records, records_in}
use Rattle.reader.specs.Calls.{checked_of}
use Rattle.reader.specs.Parse.{all_below, parse, head_at, on_head, sections_after, owners_of, values_at, values_of, sizes_ok}
use Rattle.reader.specs.Section.{sections_of, section_at, on_section, section_body, taken}
use Rattle.pending.specs.All.{all_from}
use Rattle.pending.specs.Met.{all_met}
use Rattle.pending.specs.Next.{entry_next, judged, next_of}
use Rattle.pending.specs.Run.{moved_of}
use Rattle.pending.specs.Sound.{task_sound, sound_of}
use Rattle.replayer.specs.OpenOf.{starts_of, on_parse, open_of}
use Rattle.replayer.specs.OpenedOf.{records_for}
use Rattle.replayer.specs.ReadyOf.{is_ready, ready_of}
use Rattle.replayer.specs.StepOf.{early_number, on_next, step_of}
use Rattle.replayer.specs.Word.{word_of}
use Rattle.replay_lines.specs.Lines.{object_of, line_of}
use Rattle.text.specs.Decimal.{digits_within}
use Rattle.fidelity.specs.Bench.{stepped_all}
use Rattle.runs.specs.Kinds.{lines_by, Kinds}

pub kinds : Kinds
unfolding body_records sections_records records_in records_for ordering access start start_two le2 le4 cells_of cell_of width_of head_kind_of head_step head_size fields_of fields_bytes head_front head value_bytes head_object head_objects section body_entries body_from entry_at entry_from on_record access_of check_access stands_under ordering_ok record_of is_head width_at head_of section_of op_at body_of field2 field4 checked_of parse head_at on_head sections_after sections_of section_at on_section section_body taken owners_of values_at values_of sizes_ok all_below is_within orderings_bytes entry_bytes body_bytes sections_bytes bytes_of part reads writes has_field stores_value is_valued_read all_from task_sound sound_of all_met moved_of entry_next judged next_of word_of is_ready ready_of starts_of on_parse open_of early_number on_next step_of stepped_all object_of line_of digits_within lines_by
kinds = record {
  bare_first = refl;
  bare_second = refl;
  bare_size = refl;
  bare_taken = refl;
  valued_first = refl;
  valued_second = refl;
  valued_size = refl;
  valued_taken = refl;
  bare_records = refl;
  valued_records = refl;
  refused_records = refl;
  bare_lines = refl;
  valued_lines = refl;
  bare_memory = refl;
  valued_memory = refl;
  damaged_taken = refl;
  damaged_held = refl;
  damaged_differs = refl;
  damaged_memory = refl;
  damaged_ready = refl;
}
