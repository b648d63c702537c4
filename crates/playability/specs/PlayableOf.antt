-- Whether a recording can be played to its end (document 02, F-2). Order of refusals: bytes, 18, 9; a refusal leaves the output as it was.
-- Otherwise the order is written from the output's start, one byte a step, always the lowest ready task next. Task, offset and steps are 0
-- where they mean nothing. That 18 is given exactly if there is no order at all is proved (`Laws/Theorem`).
use Rattle.std.specs.Prelude.{Option, Some, None, Err, Ok, cond, List, ℕ, ltb, length}
use Rattle.codec.specs.Number.{no_room, no_order}
use Rattle.codec.specs.Store.{store}
use Rattle.playability.specs.declared.hold.Held.{Held}
use Rattle.codec.specs.Reason.{number_of}
use Rattle.entries.specs.Reading.{Reading}
use Rattle.reader.specs.Parse.{Parsed, parse}
use Rattle.replayer.specs.OpenOf.{opened_run}
use Rattle.scheduler.specs.Schedule.{schedule_of, settled_of}
use Rattle.playability.specs.declared.Playability.{Playability}
use Rattle.playability.specs.Hold.{hold_of}

-- the answer, and the output after the call
pub record PlayableOutcome : Type 0 where
  pub answer : Playability
  pub out : List ℕ

abbrev pub refused_playable : ℕ → ℕ → ℕ → Playability
refused_playable number offset task = record { number = number; offset = offset; task = task; steps = 0 }

-- given the order and what holds up the run after it
unfoldable pub on_hold : List ℕ → List ℕ → Option Held → PlayableOutcome
on_hold order out (Some held) = record { answer = refused_playable no_order held.offset held.task; out = out }
on_hold order out None =
    cond (ltb (length out) (length order)) (record { answer = refused_playable no_room 0 0; out = out })
    (record { answer = record { number = 0; offset = 0; task = 0; steps = length order }; out = store out 0 order })

unfoldable pub playable_in : List ℕ → List ℕ → Reading Parsed → PlayableOutcome
playable_in b out (Err c) = record { answer = refused_playable (number_of c.reason) c.offset 0; out = out }
playable_in b out (Ok p) = on_hold (schedule_of b (opened_run p)) out (hold_of b (settled_of b (opened_run p)))

unfoldable pub playable_of : List ℕ → List ℕ → PlayableOutcome
playable_of b out = playable_in b out (parse b)
