-- No text is longer than `most`: a recording has at most 10,922 accesses, and each has a line of at most 3 bytes.
use Rattle.std.specs.Prelude.{Err, Ok, ◌≡◌, refl, List, ℕ, ◌≤◌, ◌<◌, length, get_or}
use Rattle.std.proofs.Math.Decide.{dec_lt}
use Rattle.std.proofs.Common.{arith}
use Rattle.codec.specs.Field.{Bytes}
use Rattle.entries.specs.Reading.{Reading}
use Rattle.reader.specs.Laws.Standing.{parse-stands}
use Rattle.reader.specs.Parse.{Parsed, parse}
use Rattle.replayer.specs.OpenOf.{opened_run}
use Rattle.scheduler.proofs.Laws.Opened.{opened-left}
use Rattle.scheduler.proofs.Laws.Schedule.{schedule_short}
use Rattle.scheduler.specs.Schedule.{schedule_of, settled_of}
use Rattle.playability.proofs.Laws.Counted.{allowed-below}
use Rattle.playability.specs.Laws.Held.{held, free}
use Rattle.playability.proofs.Laws.Held.{hold_is}
use Rattle.playability.proofs.Laws.Walk.{order-reached}
use Rattle.replay_lines.proofs.Laws.LinesBound.{refusal_few}
use Rattle.replay_lines.specs.Limits.{longest, most_steps}
use Rattle.verdict.specs.Laws.Lines.{no_few, yes_few}
use Rattle.verdict.specs.Laws.Text.{text-long, text-refused, text_no, text_yes}
use Rattle.verdict.specs.Text.{no_of, text_of, most}
use Rattle.codec.specs.Reason.{number_of}

module _ (b : List ℕ) (by : Bytes b) where
  -- the order of a recording that a program takes
  pub order-short : length b ≤ longest → (p : Parsed) → parse b ≡ Ok p → length (schedule_of b (opened_run p)) ≤ most_steps
  order-short h p e = omega (arith, schedule_short b (opened_run p), opened-left b p by e)

  order-tasks : (p : Parsed) → parse b ≡ Ok p → (i : ℕ) → i < length (schedule_of b (opened_run p)) → get_or (schedule_of b (opened_run p)) i 0 < 100
  order-tasks p e i h =
      let s = parse-stands b p e in
      omega (arith, allowed-below p.recording.bodies (schedule_of b (opened_run p)) (order-reached b p e).allowed i h, s.bodies_each, s.few_tasks)

  no_bound : (t offset : ℕ) → text_of b ≡ no_of t offset → length (text_of b) ≤ most
  no_bound t offset e = rw e (omega (arith, no_few t offset))

  pub text_bound : length (text_of b) ≤ most
  text_bound = elim (dec_lt longest (length b)) [
    | yes h ↦ rw (text-long b h) (omega arith)
    | no h ↦ go (omega (arith, h)) (parse b) refl
  ]
    where
      go : length b ≤ longest → (x : Reading Parsed) → parse b ≡ x → length (text_of b) ≤ most
      go h (Err c) e = rw (text-refused b h c e) (omega (arith, refusal_few (number_of c.reason) c.offset))
      go h (Ok p) e = elim (hold_is b (settled_of b (opened_run p))) [
        | held t k l g f ↦ no_bound _ _ (text_no b h p e _ f)
        | free g f ↦
            let s = order-short h p e in
            rw (text_yes b h p e f) (omega (arith, s, yes_few (schedule_of b (opened_run p)) (order-tasks p e) (omega (arith, s))))
      ]
