-- RECORD AND SHOW: what `show` writes for a recording that `record` made from a text (document 02, F-3): the lines of the recording of the
-- calls that the text asks for, in which each read has the value that it answered; and last how many records there are (F-5): the head, a
-- section for each task, the orderings written and the accesses accepted.
use Rattle.std.specs.Prelude.{None, List, ◌++◌, map, ◌≡◌, ℕ, length}
use Rattle.faults.specs.Reading.{text_sizes}
use Rattle.fidelity.specs.Box.{Opening, Asked, recorded, recording_by}
use Rattle.fidelity.specs.Counted.{written}
use Rattle.lines.specs.AccessLines.{access_lines}
use Rattle.lines.specs.Rows.{has_fields}
use Rattle.listing.specs.RecordingLines.{recording_lines}
use Rattle.listing.specs.Text.{text_of}
use Rattle.record_lines.specs.RecordLines.{records_line}
use Rattle.script.specs.RecordOf.{record_of}
use Rattle.programs.specs.Wanted.{wanted_in, wanted_by}

pub record Listed (text : List ℕ) : Type 0 where
  pub opening : Opening
  pub asked : List Asked
  pub asks : map wanted_by asked ≡ map (wanted_in (has_fields (text_sizes text))) (access_lines text)
  pub recorded_each : length (recorded opening asked) ≡ length (access_lines text)
  pub is : text_of None (record_of text).bytes ≡ recording_lines (recording_by opening asked) ++ records_line (written opening asked)
