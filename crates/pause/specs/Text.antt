-- What the replay program writes for a recording if it is asked to pause or to follow an order (document 02, F-4): `long` for more than
-- 65,536 bytes; nothing, and the reason on standard error, if the order cannot be followed; `refused` with number and offset for bytes that
-- are refused, and with 3 if there is not a count for each task; otherwise the text of the steps asked for.
use Rattle.std.specs.Prelude.{Err, Ok, cond, Option, Some, None, List, [], ℕ, ltb, length}
use Rattle.codec.specs.Number.{entries as wrong_length}
use Rattle.entries.specs.Reading.{Reading}
use Rattle.reader.specs.Parse.{Parsed, parse}
use Rattle.replayer.specs.OpenOf.{opened_run}
use Rattle.replay_lines.specs.Limits.{longest}
use Rattle.replay_lines.specs.Lines.{long_line, refusal_of}
use Rattle.replay_lines.specs.Streams.{Streams, streams_within}
use Rattle.scheduler.specs.Finish.{Play}
use Rattle.waits.specs.Waits.{waits_most}
use Rattle.pause.specs.Ending.{said_of}
use Rattle.follow.specs.Follow.{Followed, followed_of}
use Rattle.pause.specs.Request.{Request, steps_of, has_counts, request_of, can_follow, complaint_of}
use Rattle.codec.specs.Reason.{number_of}

-- a recording at its start
abbrev pub start_of : Parsed → Play
start_of p = record { run = opened_run p; memory = p.recording.values; steps = 0 }

-- the steps asked for, followed from there
abbrev pub followed_by : Request → List ℕ → Parsed → Followed
followed_by q b p = followed_of b q.most q.counts (start_of p) (steps_of q b (opened_run p))

unfoldable pub answer_of : Request → List ℕ → Reading Parsed → Streams
answer_of q b (Err c) = record { text = refusal_of (number_of c.reason) c.offset; reasons = [] }
answer_of q b (Ok p) =
    cond (has_counts q.counts p.recording.tasks)
    (said_of b q.counts (followed_by q b p))
    (record { text = refusal_of wrong_length 0; reasons = [] })

-- the order as text
unfoldable pub asked_of : ℕ → List ℕ → Option (List ℕ) → List ℕ → Streams
asked_of most counts None b = answer_of (request_of most counts None) b (parse b)
asked_of most counts (Some order) b =
    cond (can_follow order) (answer_of (request_of most counts (Some order)) b (parse b)) (record { text = []; reasons = complaint_of order })

unfoldable pub spoken_of : ℕ → List ℕ → Option (List ℕ) → List ℕ → Streams
spoken_of most counts order b = cond (ltb longest (length b)) (record { text = long_line; reasons = [] }) (asked_of most counts order b)

-- the most bytes that a text can have (`Laws/Bound.told-few`)
abbrev pub longest_text : ℕ
longest_text = 940300

-- the most tasks that an order of 65,536 bytes can name (`lines` `Laws/Order.order-few`)
abbrev pub most_tasks : ℕ
most_tasks = 32768

-- into buffers of these lengths
abbrev pub streams_of : ℕ → ℕ → ℕ → List ℕ → Option (List ℕ) → List ℕ → Streams
streams_of room why_room most counts order b = streams_within longest_text waits_most room why_room (spoken_of most counts order b)
