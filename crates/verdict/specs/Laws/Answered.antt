-- The text and the reasons by what the call answers, with an output that is long enough for every order.
use Rattle.std.specs.Prelude.{Err, Ok, ◌≡◌, refl, List, [], ℕ, ◌+◌, ◌≤◌, length, take, drop}
use Rattle.std.proofs.Common.{sym, ap, ◌∙◌, arith, take_at}
use Rattle.codec.specs.Field.{Bytes}
use Rattle.codec.specs.Laws.Store.{store_split, store_length}
use Rattle.codec.specs.Number.{no_order, ByReader}
use Rattle.codec.specs.Store.{store}
use Rattle.entries.specs.Reading.{Reading}
use Rattle.entries.specs.declared.Refusal.{Refusal}
use Rattle.reader.specs.Laws.Numbered.{parse-numbered}
use Rattle.replayer.specs.OpenOf.{opened_run}
use Rattle.scheduler.specs.Schedule.{schedule_of, settled_of}
use Rattle.playability.specs.declared.Playability.{Playability}
use Rattle.playability.specs.Laws.Held.{held, free}
use Rattle.playability.proofs.Laws.Held.{hold_is}
use Rattle.playability.proofs.Laws.PlayableCode.{settles, refused_bytes}
use Rattle.playability.proofs.Laws.PlayableOf.{bytes-refused, task-held, order-fits}
use Rattle.playability.specs.declared.settle.Settled.{Settled}
use Rattle.playability.specs.Laws.PlayableCode.{Settles}
use Rattle.playability.specs.PlayableOf.{PlayableOutcome, playable_of}
use Rattle.playability.specs.Settle.{settle_of}
use Rattle.replay_lines.specs.Limits.{longest, most_steps}
use Rattle.replay_lines.specs.Lines.{refusal_of}
use Rattle.waits.specs.Waits.{waits_of}
use Rattle.verdict.specs.Laws.Reasons.{reasons-refused, reasons-read, reasons-none}
use Rattle.verdict.specs.Laws.Text.{text-refused, text_no, text_yes}
use Rattle.verdict.specs.Laws.TextBound.{order-short}
use Rattle.verdict.specs.Reasons.{reasons_of}
use Rattle.verdict.specs.Text.{yes_of, no_of, text_of}
use Rattle.codec.specs.Reason.{number_of}

-- the answer and the output after the call: yes, no, or refused
pub data Told (b : List ℕ) (a : Playability) (out : List ℕ) : Type 0 where
  says_yes : a.number ≡ 0 → a.steps ≤ length out → text_of b ≡ yes_of (take a.steps out) → reasons_of b ≡ [] → Told b a out
  says_no : a.number ≡ no_order → text_of b ≡ no_of a.task a.offset → (s : Settled) → Ok s ≡ settle_of b → reasons_of b ≡ waits_of b s.run → Told b a out
  away : (a.number ≡ 0 → ⊥) → (a.number ≡ no_order → ⊥) → text_of b ≡ refusal_of a.number a.offset → reasons_of b ≡ [] → Told b a out

-- the same where the bytes are read: yes, or no
pub data Played (b : List ℕ) (s : Settled) (a : Playability) (out : List ℕ) : Type 0 where
  to_the_end : a.number ≡ 0 → a.steps ≤ length out → text_of b ≡ yes_of (take a.steps out) → reasons_of b ≡ [] → Played b s a out
  held_up : a.number ≡ no_order → text_of b ≡ no_of a.task a.offset → reasons_of b ≡ waits_of b s.run → Played b s a out

-- the case by the number
pub record Yes (b : List ℕ) (a : Playability) (out : List ℕ) : Type 0 where
  pub within : a.steps ≤ length out
  pub text : text_of b ≡ yes_of (take a.steps out)
  pub reasons : reasons_of b ≡ []

pub yes_so : {b : List ℕ} {a : Playability} {out : List ℕ} → Told b a out → a.number ≡ 0 → Yes b a out
yes_so (says_yes n w t r) z = record { within = w; text = t; reasons = r }
yes_so (says_no n t s e r) z = absurd (omega (arith, n))
yes_so (away n m t r) z = absurd (n z)

pub record No (b : List ℕ) (a : Playability) : Type 0 where
  pub text : text_of b ≡ no_of a.task a.offset
  pub settled : Settled
  pub reads : Ok settled ≡ settle_of b
  pub reasons : reasons_of b ≡ waits_of b settled.run

pub no_so : {b : List ℕ} {a : Playability} {out : List ℕ} → Told b a out → a.number ≡ no_order → No b a
no_so (says_yes n w t r) z = absurd (omega (arith, n))
no_so (says_no n t s e r) z = record { text = t; settled = s; reads = e; reasons = r }
no_so (away n m t r) z = absurd (m z)

pub away_so : {b : List ℕ} {a : Playability} {out : List ℕ} → Told b a out → (a.number ≡ 0 → ⊥) → (a.number ≡ no_order → ⊥)
    → (text_of b ≡ refusal_of a.number a.offset) × (reasons_of b ≡ [])
away_so (says_yes n w t r) z y = absurd (z n)
away_so (says_no n t s e r) z y = absurd (y n)
away_so (away n m t r) z y = (t, r)

pub yes_played : {b : List ℕ} {s : Settled} {a : Playability} {out : List ℕ} → Played b s a out → a.number ≡ 0 → Yes b a out
yes_played (to_the_end n w t r) z = record { within = w; text = t; reasons = r }
yes_played (held_up n t r) z = absurd (omega (arith, n))

pub no_played : {b : List ℕ} {s : Settled} {a : Playability} {out : List ℕ} → Played b s a out → (a.number ≡ 0 → ⊥) → (text_of b ≡ no_of a.task a.offset) × (reasons_of b ≡ waits_of b s.run)
no_played (to_the_end n w t r) z = absurd (z n)
no_played (held_up n t r) z = (t, r)

-- an order stored at the start of an output that is long enough
stored : (out order : List ℕ) → length order ≤ length out → (length order ≤ length (store out 0 order)) × (take (length order) (store out 0 order) ≡ order)
stored out order h =
    let k : 0 + length order ≤ length out = omega arith in
    (omega (arith, store_length out 0 order), rw (store_split out 0 order k) (take_at order (drop (0 + length order) out) (length order) refl))

module _ (b : List ℕ) (h : length b ≤ longest) where
  -- bytes that are refused
  pub says_refused : (c : Refusal) → Err c ≡ settle_of b → (text_of b ≡ refusal_of (number_of c.reason) c.offset) × (reasons_of b ≡ [])
  says_refused c e = let w = refused_bytes b c e in (text-refused b h c w, reasons-refused b h c w)

  module _ (by : Bytes b) (room : List ℕ) (l : most_steps ≤ length room) where
    by_outcome : (a : Playability) (out : List ℕ) (x : PlayableOutcome) → playable_of b room ≡ x → a ≡ (playable_of b room).answer → out ≡ (playable_of b room).out → (a ≡ x.answer) × (out ≡ x.out)
    by_outcome a out x e f g = (f ∙ ap (λ (o : PlayableOutcome). o.answer) e, g ∙ ap (λ (o : PlayableOutcome). o.out) e)

    -- bytes that are read
    pub played : (s : Settled) → Ok s ≡ settle_of b → (a : Playability) (out : List ℕ) → a ≡ (playable_of b room).answer → out ≡ (playable_of b room).out → Played b s a out
    played s e a out f g =
        let w : Settles b s = settles b s e in
        let p = w.parsed in
        elim (hold_is b (settled_of b (opened_run p))) [
          | held t i m j q ↦
              let k = by_outcome a out _ (task-held b room p w.is _ q) f g in
              held_up (ap (λ (o : Playability). o.number) k.0) (rw k.0 (text_no b h p w.is _ q)) (reasons-read b h p w.is ∙ ap (waits_of b) (sym w.run))
          | free j q ↦
              let i : length (schedule_of b (opened_run p)) ≤ length room = omega (arith, order-short b by h p w.is) in
              let k = by_outcome a out _ (order-fits b room p w.is q i) f g in
              let x = stored room (schedule_of b (opened_run p)) i in
              to_the_end (ap (λ (o : Playability). o.number) k.0) (rw (k.0, k.1) x.0) (rw (k.0, k.1, x.1) (text_yes b h p w.is q))
              (reasons-none b h p w.is (λ t v. let y : 0 + t ≡ t = omega arith in rw y at (j t v)))
        ]

    pub told : (a : Playability) (out : List ℕ) → a ≡ (playable_of b room).answer → out ≡ (playable_of b room).out → Told b a out
    told a out f g = go (settle_of b) refl
      where
        go : (x : Reading Settled) → settle_of b ≡ x → Told b a out
        go (Err c) e =
            let q = refused_bytes b c (sym e) in
            let k = by_outcome a out _ (bytes-refused b room c q) f g in
            let n : a.number ≡ number_of c.reason = ap (λ (o : Playability). o.number) k.0 in
            let o : a.offset ≡ c.offset = ap (λ (y : Playability). y.offset) k.0 in
            let r : ByReader (number_of c.reason) = rw q at (parse-numbered b) in
            let w = says_refused c (sym e) in
            away (λ z. omega (arith, n, r.0)) (λ z. omega (arith, n, r.1)) (rw (n, o) w.0) w.1
        go (Ok s) e = elim (played s (sym e) a out f g) [
          | to_the_end n w t r ↦ says_yes n w t r
          | held_up n t r ↦ says_no n t s (sym e) r
        ]
