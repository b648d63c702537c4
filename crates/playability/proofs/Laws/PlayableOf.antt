-- The cases of the answer.
use Rattle.std.specs.Prelude.{Some, None, Err, Ok, ◌≡◌, List, ℕ, ◌≤◌, ◌<◌, length}
use borrow.Author.Tests.{lt-ltb, le-ltb}
use Rattle.codec.specs.Number.{no_room, no_order}
use Rattle.codec.specs.Reason.{number_of}
use Rattle.codec.specs.Store.{store}
use Rattle.entries.specs.declared.Refusal.{Refusal}
use Rattle.reader.specs.Parse.{Parsed, parse}
use Rattle.replayer.specs.OpenOf.{opened_run}
use Rattle.scheduler.specs.Schedule.{schedule_of, settled_of}
use Rattle.playability.specs.declared.hold.Held.{Held}
use Rattle.playability.specs.Hold.{hold_of}
use Rattle.playability.specs.PlayableOf.{refused_playable, on_hold, playable_in, playable_of}

module _ (b out : List ℕ) where
  pub bytes-refused : (c : Refusal) → parse b ≡ Err c → playable_of b out ≡ record { answer = refused_playable (number_of c.reason) c.offset 0; out = out }
  unfolding playable_of playable_in
  bytes-refused c e = rw e

  module _ (p : Parsed) (e : parse b ≡ Ok p) where
    pub task-held : (held : Held) → hold_of b (settled_of b (opened_run p)) ≡ Some held → playable_of b out ≡ record { answer = refused_playable no_order held.offset held.task; out = out }
    unfolding playable_of playable_in on_hold
    task-held held f = rw (e, f)

    module _ (f : hold_of b (settled_of b (opened_run p)) ≡ None) where
      pub output-short : length out < length (schedule_of b (opened_run p)) → playable_of b out ≡ record { answer = refused_playable no_room 0 0; out = out }
      unfolding playable_of playable_in on_hold
      output-short l = rw (e, f, lt-ltb (length out) (length (schedule_of b (opened_run p))) l)

      pub order-fits : length (schedule_of b (opened_run p)) ≤ length out
          → playable_of b out ≡ record { answer = record { number = 0; offset = 0; task = 0; steps = length (schedule_of b (opened_run p)) }; out = store out 0 (schedule_of b (opened_run p)) }
      unfolding playable_of playable_in on_hold
      order-fits l = rw (e, f, le-ltb (length out) (length (schedule_of b (opened_run p))) l)
