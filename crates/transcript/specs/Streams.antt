-- What the replay program writes for a recording, on both streams, into buffers of these lengths.
use Rattle.std.specs.Prelude.{List, ℕ}
use Rattle.replay_lines.specs.Streams.{Streams, streams_within}
use Rattle.waits.specs.Waits.{waits_most}
use Rattle.transcript.specs.Reasons.{reasons_of}
use Rattle.transcript.specs.Text.{text_of, most}

abbrev pub streams_of : ℕ → ℕ → List ℕ → Streams
streams_of room why_room b = streams_within most waits_most room why_room (record { text = text_of b; reasons = reasons_of b })
