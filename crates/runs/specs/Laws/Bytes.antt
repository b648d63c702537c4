-- Laws of `Bytes`.
use Rattle.std.specs.Prelude.{refl}
use Rattle.codec.specs.Decode.{fault_reason, record_of, width_at, head_of, section_of, op_at, body_of}
use Rattle.codec.specs.Cell.{width_of}
use Rattle.codec.specs.Head.{head_step, head_size, fields_of}
use Rattle.codec.specs.Limit.{is_within}
use Rattle.codec.specs.Encode.{start, start_two, value_bytes, head_object, head_objects, fields_bytes, head_front, head, section, ordering, access}
use Rattle.codec.specs.Kind.{is_head, has_field, stores_value, stands_under, access_kind, head_kind_of}
use Rattle.codec.specs.Field.{le2, le4, field2, field4}
use Rattle.entries.specs.Bytes.{orderings_bytes, entry_bytes, body_bytes, sections_bytes, bytes_of}
use Rattle.entries.specs.Entry.{ordering_ok, check_access, access_of, on_record, entry_from, entry_at}
use Rattle.entries.specs.Body.{body_from, body_entries}
use Rattle.reader.specs.Section.{taken, section_body, on_section, section_at, sections_of}
use Rattle.reader.specs.Parse.{owners_of, values_at, values_of, all_below, sizes_ok, on_head, head_at, sections_after, parse}
use Rattle.reader.specs.Calls.{checked_of}
use Rattle.runs.specs.Bytes.{Bytes}

pub bytes : Bytes
unfolding is_within checked_of parse head_at on_head sections_after sections_of section_at on_section section_body taken body_entries body_from entry_at entry_from on_record access_of check_access stands_under ordering_ok owners_of values_at values_of all_below sizes_ok fault_reason record_of is_head width_at head_of section_of op_at body_of width_of head_step head_size fields_of start start_two value_bytes head_object head_objects head_kind_of fields_bytes head_front head section ordering access_kind access has_field stores_value le2 le4 field2 field4 orderings_bytes entry_bytes body_bytes sections_bytes bytes_of
bytes = record { none = (refl, refl); size = refl; whole = refl; cut = (refl, refl); longer = (refl, refl); from_zero = (refl, refl) }
