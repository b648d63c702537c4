-- The cases of the reasons, and how long they can be.
use Rattle.std.specs.Prelude.{Err, Ok, ◌≡◌, refl, false, List, [], ℕ, ◌≤◌, ◌<◌, length}
use Rattle.std.proofs.Math.Decide.{dec_lt}
use Rattle.std.proofs.Common.{arith, lt-ltb, le-ltb}
use Rattle.entries.specs.declared.Refusal.{Refusal}
use Rattle.entries.specs.Reading.{Reading}
use Rattle.reader.specs.Parse.{Parsed, parse}
use Rattle.pending.proofs.Laws.Sound.{sound_facts}
use Rattle.replayer.proofs.Laws.Along.{along_opened}
use Rattle.replayer.specs.OpenOf.{opened_run}
use Rattle.replayer.specs.ReadyOf.{has_left}
use Rattle.scheduler.specs.Schedule.{settled_of}
use Rattle.scheduler.proofs.Laws.Settled.{settled_along}
use Rattle.replay_lines.specs.Limits.{longest}
use Rattle.waits.specs.Waits.{waits_of, waits_most}
use Rattle.waits.proofs.Laws.Waits.{waits_short, waits_nothing}
use Rattle.verdict.specs.Reasons.{reasons_in, reasons_of}

module _ (b : List ℕ) where
  pub reasons-long : longest < length b → reasons_of b ≡ []
  unfolding reasons_of
  reasons-long h = rw (lt-ltb longest (length b) h)

  module _ (h : length b ≤ longest) where
    pub reasons-refused : (c : Refusal) → parse b ≡ Err c → reasons_of b ≡ []
    unfolding reasons_of reasons_in
    reasons-refused c e = rw (le-ltb longest (length b) h, e)

    module _ (p : Parsed) (e : parse b ≡ Ok p) where
      pub reasons-read : reasons_of b ≡ waits_of b (settled_of b (opened_run p))
      unfolding reasons_of reasons_in
      reasons-read = rw (le-ltb longest (length b) h, e)

      pub reasons-none : ((t : ℕ) → t < (settled_of b (opened_run p)).tasks → has_left (settled_of b (opened_run p)) t ≡ false) → reasons_of b ≡ []
      reasons-none g = rw reasons-read (waits_nothing b _ _ g)

  pub reasons_bound : length (reasons_of b) ≤ waits_most
  reasons_bound = elim (dec_lt longest (length b)) [
    | yes h ↦ rw (reasons-long h) (omega arith)
    | no h ↦ go (omega (arith, h)) (parse b) refl
  ]
    where
      go : length b ≤ longest → (x : Reading Parsed) → parse b ≡ x → length (reasons_of b) ≤ waits_most
      go h (Err c) e = rw (reasons-refused h c e) (omega arith)
      go h (Ok p) e =
          let s = sound_facts _ _ (settled_along b p.recording.bodies (opened_run p) (along_opened b p e)).sound in
          rw (reasons-read h p e) (omega (arith, waits_short b (settled_of b (opened_run p)) (settled_of b (opened_run p)).tasks, s.few_tasks))
