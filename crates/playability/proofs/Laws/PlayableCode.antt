-- The call as the code makes it: what `settle` answers, then the tests in order.
use Rattle.codec.specs.Reason.{number_of}
use Rattle.std.specs.Prelude.{Option, Some, None, Err, Ok, ◌≡◌, refl, List, ℕ, ◌≤◌, ◌<◌, length}
use Rattle.std.proofs.Common.{sym, ap, ◌∙◌, arith}
use Rattle.codec.specs.Number.{no_room, no_order}
use Rattle.codec.specs.Store.{store}
use Rattle.entries.specs.Reading.{Reading}
use Rattle.entries.specs.declared.Refusal.{Refusal}
use Rattle.reader.specs.Parse.{Parsed, parse}
use Rattle.pending.specs.Laws.Sound.{Sound}
use Rattle.pending.proofs.Laws.Sound.{sound_facts}
use Rattle.replayer.proofs.Laws.Along.{along_opened}
use Rattle.replayer.specs.OpenOf.{opened_run}
use Rattle.scheduler.specs.Schedule.{schedule_from, schedule_of, settled_of}
use Rattle.scheduler.proofs.Laws.Schedule.{schedule_within}
use Rattle.scheduler.proofs.Laws.Settled.{settled_along}
use Rattle.playability.specs.declared.settle.Settled.{Settled}
use Rattle.playability.specs.declared.hold.Held.{Held}
use Rattle.playability.specs.Hold.{hold_of}
use Rattle.playability.specs.PlayableOf.{refused_playable, playable_of}
use Rattle.playability.proofs.Laws.PlayableOf.{bytes-refused, task-held, output-short, order-fits}
use Rattle.playability.specs.Settle.{settled_at, settle_of}
use Rattle.playability.specs.Laws.PlayableCode.{Settles}

pub settles : (b : List ℕ) (s : Settled) → Ok s ≡ settle_of b → Settles b s
unfolding settle_of
settles b s e = go (parse b) refl
  where
    go : (x : Reading Parsed) → parse b ≡ x → Settles b s
    go (Err c) q = absurd (let y : Ok s ≡ Err c = rw q at e in let z : ◌≡◌ {A = ℕ} 0 1 = cc in omega arith)
    go (Ok p) q =
        let y : Ok s ≡ Ok (settled_at b p) = rw q at e in
        let k : s ≡ settled_at b p = cc in
        record { parsed = p; is = q; start = rw k; run = rw k; steps = rw k }

-- bytes that are refused
pub refused_bytes : (b : List ℕ) (c : Refusal) → Err c ≡ settle_of b → parse b ≡ Err c
unfolding settle_of
refused_bytes b c e = go (parse b) refl
  where
    go : (x : Reading Parsed) → parse b ≡ x → parse b ≡ Err c
    go (Err d) q =
        let y : ◌≡◌ {A = Reading Settled} (Err c) (Err d) = rw q at e in
        let k : c ≡ d = cc in
        rw k q
    go (Ok p) q = absurd (let y : Err c ≡ Ok (settled_at b p) = rw q at e in let z : ◌≡◌ {A = ℕ} 0 1 = cc in omega arith)

pub playable_refused : (b : List ℕ) (c : Refusal) → Err c ≡ settle_of b → (out : List ℕ)
    → record { answer = refused_playable (number_of c.reason) c.offset 0; out = out } ≡ playable_of b out
playable_refused b c e out = sym (bytes-refused b out c (refused_bytes b c e))

module _ (b : List ℕ) (s : Settled) (e : Ok s ≡ settle_of b) where
  pub settled_sound : Sound s.run (length b)
  settled_sound = let w = settles b s e in rw w.run (sound_facts _ _ (settled_along b w.parsed.recording.bodies (opened_run w.parsed) (along_opened b w.parsed w.is)).sound)

  module _ (out : List ℕ) (h : Option Held) (f : h ≡ hold_of b s.run) where
    -- what holds up the run after the order
    after-order : (w : Settles b s) (k : Option Held) → h ≡ k → hold_of b (settled_of b (opened_run w.parsed)) ≡ k
    after-order w k g = sym (ap (hold_of b) w.run) ∙ sym f ∙ g

    pub playable_held : (held : Held) → h ≡ Some held → record { answer = refused_playable no_order held.offset held.task; out = out } ≡ playable_of b out
    playable_held held g = let w = settles b s e in sym (task-held b out w.parsed w.is held (after-order w (Some held) g))

    module _ (g : h ≡ None) where
      pub playable_short : length out < s.steps → record { answer = refused_playable no_room 0 0; out = out } ≡ playable_of b out
      playable_short l = let w = settles b s e in sym (output-short b out w.parsed w.is (after-order w None g) (rw w.steps at l))

      pub playable_order : s.steps ≤ length out → (steps : ℕ) (after : List ℕ) → steps ≡ length (schedule_from (length out) b s.start) → after ≡ store out 0 (schedule_from (length out) b s.start)
          → record { answer = record { number = 0; offset = 0; task = 0; steps = steps }; out = after } ≡ playable_of b out
      playable_order l steps after i j =
          let w = settles b s e in
          let p = w.parsed in
          let m : length (schedule_of b (opened_run p)) ≤ length out = rw w.steps at l in
          let a = along_opened b p w.is in
          let o : schedule_from (length out) b s.start ≡ schedule_of b (opened_run p) = ap (schedule_from (length out) b) w.start ∙ schedule_within b (length out) (opened_run p) a.sound a.shaped m in
          rw (i, j, o) (sym (order-fits b out p w.is (after-order w None g) m))
