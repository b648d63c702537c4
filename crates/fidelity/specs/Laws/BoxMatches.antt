-- The recorder's side of demand 3: after any calls from an accepted opening the recording reads as the history of the accepted accesses,
-- and the box's memory is that history's reference memory.
use Rattle.std.specs.Prelude.{List, ◌≡◌, ℕ, ◌+◌, ◌≤◌, ◌<◌}
use Rattle.std.proofs.Common.{◌∙◌}
use Rattle.reader.specs.Parse.{Parsed}
use Rattle.reader.specs.Laws.Roundtrip.{spans_of}
use Rattle.fidelity.specs.Box.{Opening, Asked, recording_by}

abbrev pub parsed_by : Opening → List Asked → Parsed
parsed_by o asked = record { recording = recording_by o asked; spans = spans_of (recording_by o asked) }
