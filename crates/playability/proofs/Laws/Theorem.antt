-- F-2, proved: 18 is answered exactly if there is no order of all accesses among all lists of tasks, and the order that is written is one.
use Rattle.std.specs.Prelude.{None, Err, Ok, ◌≡◌, refl, true, false, List, [], ◌∷◌, ℕ, ◌+◌, ◌*◌, ◌≤◌, ◌<◌, leb, length, get_or}
use Rattle.std.proofs.Common.{sym, ap, ◌∙◌, le_antisymm, arith, ltb-true, ltb-false, leb-true, leb-false}
use Rattle.std.proofs.Math.Decide.{dec_lt}
use Rattle.std.proofs.Math.ListN.{get_or-eq_default}
use Rattle.codec.specs.declared.Position.{Position}
use Rattle.codec.specs.Kind.{ordering_kind, length_of}
use Rattle.codec.specs.Laws.Decide.{passes, fails, split}
use Rattle.entries.specs.Reading.{Reading}
use Rattle.entries.specs.Recording.{Entry, no_entry}
use Rattle.history.specs.Closed.{Met}
use Rattle.reader.specs.Laws.Numbered.{parse-numbered}
use Rattle.reader.specs.Parse.{Parsed, parse}
use Rattle.pending.specs.declared.Run.{Run}
use Rattle.pending.specs.declared.TaskRun.{TaskRun}
use Rattle.pending.specs.Run.{task_at, done_of}
use Rattle.pending.specs.Unmet.{Unmet, unmet_of, unmet_in, unmet_next}
use Rattle.replayer.proofs.Laws.Along.{along_entry}
use Rattle.replayer.specs.OpenOf.{opened_run}
use Rattle.replayer.specs.ReadyOf.{has_left}
use Rattle.scheduler.specs.Schedule.{schedule_of, settled_of}
use Rattle.playability.specs.declared.Playability.{Playability}
use Rattle.playability.specs.Hold.{offset_in, hold_of}
use Rattle.playability.specs.Order.{times, body_of, Allowed, Plays, StaysHeld}
use Rattle.playability.specs.PlayableOf.{PlayableOutcome}
use Rattle.playability.specs.Statement.{HeldUp, answer, after, Answers}
use Rattle.playability.proofs.Laws.Counted.{plays-length}
use Rattle.playability.specs.Laws.Held.{held, free}
use Rattle.playability.proofs.Laws.Held.{hold_is}
use Rattle.playability.proofs.Laws.PlayableOf.{bytes-refused, task-held, output-short, order-fits}
use Rattle.playability.proofs.Laws.Order.{Stops, most-done, never_more}
use Rattle.playability.specs.Laws.Walk.{Reached}
use Rattle.playability.proofs.Laws.Walk.{start_at, order-reached, order_stops}
use Rattle.playability.specs.Laws.Theorem.{Parted, Result, none, room, short}

parted : (runs : List TaskRun) (d : ℕ → ℕ) → ((s : ℕ) → done_of runs s ≡ d s) → (at : ℕ) (ps : List Position) → (Met d ps → ⊥) → Parted runs d at ps
unfolding unmet_of
parted runs d g at [] h = absurd (h tt)
parted runs d g at (p ∷ ps) h = elim (split (leb p.number (done_of runs p.task))) [
  | passes q ↦
      let l : p.number ≤ d p.task = omega (arith, leb-true p.number (done_of runs p.task) q, g p.task) in
      let w = parted runs d g (at + length_of ordering_kind) ps (λ m. h (l, m)) in
      let k : at + length_of ordering_kind + 8 * length w.first ≡ at + 8 * length (p ∷ w.first) = omega arith in
      record {
        first = p ∷ w.first;
        unmet = w.unmet;
        rest = w.rest;
        whole = ap (λ (xs : List Position). p ∷ xs) w.whole;
        met = (l, w.met);
        below = w.below;
        is = rw q (w.is ∙ ap (λ (o : ℕ). Unmet.first o w.unmet) k);
      }
  | fails q ↦
      let k : at ≡ at + 8 * 0 = omega arith in
      record {
        first = [];
        unmet = p;
        rest = ps;
        whole = refl;
        met = tt;
        below = omega (arith, leb-false p.number (done_of runs p.task) q, g p.task);
        is = rw q (ap (λ (o : ℕ). Unmet.first o p) k);
      }
]

module _ (b : List ℕ) (p : Parsed) (e : parse b ≡ Ok p) where
  abbrev bodies : List (List Entry)
  bodies = p.recording.bodies

  abbrev order : List ℕ
  order = schedule_of b (opened_run p)

  abbrev stood : Run
  stood = settled_of b (opened_run p)

  reached : Reached b bodies (start_at b p e) stood order
  reached = order-reached b p e

  stopped : Stops bodies order
  stopped = order_stops b p e

  most : (other : List ℕ) → Allowed bodies other → (t : ℕ) → times t other ≤ times t order
  most other a t = most-done bodies order stopped other a t

  -- accesses left, by the order
  some_left : (t : ℕ) → t < stood.tasks → has_left stood t ≡ true → times t order < length (body_of bodies t)
  some_left t h l = omega (arith, ltb-true (task_at stood.runs t).done (task_at stood.runs t).count l, reached.done t, reached.along.count t h)

  -- a task that has accesses left there stays held, in every allowed order
  left-stays : (t : ℕ) → t < stood.tasks → has_left stood t ≡ true → StaysHeld bodies t
  left-stays t h l other a = omega (arith, most other a t, some_left t h l)

  -- a task that has none left has done all
  none_left : (t : ℕ) → t < stood.tasks → has_left stood t ≡ false → times t order ≡ length (body_of bodies t)
  none_left t h l = le_antisymm (never_more bodies order reached.allowed t) (omega (arith, ltb-false (task_at stood.runs t).done (task_at stood.runs t).count l, reached.done t, reached.along.count t h))

  -- there is no order
  held_none : (t : ℕ) → t < stood.tasks → has_left stood t ≡ true → (other : List ℕ) → Plays bodies other → ⊥
  held_none t h l other x = omega (arith, left-stays t h l other x.allowed, x.whole t)

  -- there is one
  beyond : (t : ℕ) → stood.tasks ≤ t → length (body_of bodies t) ≡ 0
  beyond t h = ap length (get_or-eq_default bodies [] {n = t} (omega (arith, reached.each, h)))

  pub free_plays : ((t : ℕ) → t < stood.tasks → has_left stood t ≡ false) → Plays bodies order
  free_plays g = record {
    allowed = reached.allowed;
    whole = λ t. elim (dec_lt t stood.tasks) [
      | yes h ↦ none_left t h (g t h)
      | no h ↦ omega (arith, never_more bodies order reached.allowed t, beyond t (omega (arith, h)))
    ];
  }

  -- what holds up a task that has accesses left
  module _ (t : ℕ) (h : t < stood.tasks) (l : has_left stood t ≡ true) where
    abbrev group : List Position
    group = (get_or (body_of bodies t) (times t order) no_entry).orderings

    not-met : Met (λ s. times s order) group → ⊥
    not-met m = stopped t (record { left = some_left t h l; met = m })

    parts : Parted stood.runs (λ s. times s order) (task_at stood.runs t).place group
    parts = parted stood.runs (λ s. times s order) reached.done (task_at stood.runs t).place group not-met

    next-unmet : unmet_next stood b t ≡ Unmet.first ((task_at stood.runs t).place + 8 * length parts.first) parts.unmet
    unfolding unmet_next unmet_in
    next-unmet = rw (along_entry b bodies stood reached.along t h (ltb-true _ _ l), reached.done t) parts.is

    -- its first unmet ordering names an access that no allowed order comes to
    pub never_comes : (place : ℕ) (q : Position) → unmet_next stood b t ≡ Unmet.first place q → (other : List ℕ) → Allowed bodies other → times q.task other < q.number
    never_comes place q f other a =
        let y : Unmet.first ((task_at stood.runs t).place + 8 * length parts.first) parts.unmet ≡ Unmet.first place q = sym next-unmet ∙ f in
        let z : parts.unmet ≡ q = cc in
        rw (← z) (omega (arith, most other a parts.unmet.task, parts.below))

    held_up : ((u : ℕ) → u < t → has_left stood u ≡ false) → HeldUp p t (offset_in (unmet_next stood b t))
    held_up g = record {
      stays = left-stays t h l;
      lowest = λ u k y. omega (arith, y order reached.allowed, none_left u (omega arith) (g u k));
      order = order;
      allowed = reached.allowed;
      most = most;
      first = parts.first;
      unmet = parts.unmet;
      rest = parts.rest;
      group = parts.whole;
      met = parts.met;
      never = λ other a. omega (arith, most other a parts.unmet.task, parts.below);
      place = ap offset_in next-unmet ∙ ap (λ (o : ℕ). o + 8 * length parts.first) (reached.place t h);
    }

module _ (b out : List ℕ) (p : Parsed) (e : parse b ≡ Ok p) where
  -- no task has accesses left: the output is long enough, or not
  with_order : Plays p.recording.bodies (order b p e) → hold_of b (stood b p e) ≡ None → Result b out p
  with_order x f =
      let n = plays-length p.recording.bodies (order b p e) x in
      elim (dec_lt (length out) (length (order b p e))) [
        | yes q ↦
            let k = output-short b out p e f q in
            short (order b p e) (ap (λ (o : PlayableOutcome). o.answer) k) (ap (λ (o : PlayableOutcome). o.out) k) x (omega (arith, n))
        | no q ↦
            let k = order-fits b out p e f (omega (arith, q)) in
            room (order b p e) (rw n at (ap (λ (o : PlayableOutcome). o.answer) k)) (ap (λ (o : PlayableOutcome). o.out) k) x (reached b p e).lowest (omega (arith, n, q))
      ]

  result : Result b out p
  result = elim (hold_is b (stood b p e)) [
    | held t h l g f ↦
        let z : 0 + t ≡ t = omega arith in
        let m : has_left (stood b p e) t ≡ true = rw z at l in
        let k = task-held b out p e _ f in
        none (0 + t) _ (ap (λ (o : PlayableOutcome). o.answer) k) (ap (λ (o : PlayableOutcome). o.out) k)
        (rw z (held_up b p e t h m (λ u j. let y : 0 + u ≡ u = omega arith in rw y at (g u j)))) (held_none b p e t h m)
    | free g f ↦ with_order (free_plays b p e (λ t h. let y : 0 + t ≡ t = omega arith in rw y at (g t h))) f
  ]

-- an answer has one number
clash : {k m n : ℕ} → k ≡ m → k ≡ n → (m ≡ n → ⊥) → ⊥
clash p q d = d (sym p ∙ q)

number_of : {x y : Playability} → x ≡ y → x.number ≡ y.number
number_of e = ap (λ (o : Playability). o.number) e

module _ (b out : List ℕ) where
  kept : (x : Reading Parsed) → parse b ≡ x → ((answer b out).number ≡ 0 → ⊥) → (after b out ≡ out) × ((answer b out).steps ≡ 0)
  kept (Err c) e z = (ap (λ (o : PlayableOutcome). o.out) (bytes-refused b out c e), ap (λ (o : PlayableOutcome). o.answer.steps) (bytes-refused b out c e))
  kept (Ok p) e z = elim (result b out p e) [
    | none t o a k h n ↦ (k, ap (λ (x : Playability). x.steps) a)
    | short order a k x l ↦ (k, ap (λ (x : Playability). x.steps) a)
    | room order a k x m l ↦ absurd (z (number_of a))
  ]

  pub playable_answers : Answers b out
  playable_answers = record {
    bytes_first = λ c e. (ap (λ (o : PlayableOutcome). o.answer) (bytes-refused b out c e), rw e at (parse-numbered b));
    without_order = λ p e. elim (result b out p e) [
      | none t o a k h n ↦ (λ z. n, λ f. number_of a)
      | short order a k x l ↦ (λ z. absurd (clash (number_of a) z (λ y. omega arith)), λ f. absurd (f order x))
      | room order a k x m l ↦ (λ z. absurd (clash (number_of a) z (λ y. omega arith)), λ f. absurd (f order x))
    ];
    held_up = λ p e z. elim (result b out p e) [
      | none t o a k h n ↦ rw a h
      | short order a k x l ↦ absurd (clash (number_of a) z (λ y. omega arith))
      | room order a k x m l ↦ absurd (clash (number_of a) z (λ y. omega arith))
    ];
    no_room_left = λ p e. elim (result b out p e) [
      | none t o a k h n ↦ (λ z. absurd (clash (number_of a) z (λ y. omega arith)), λ f. absurd (n f.0.0 f.0.1))
      | short order a k x l ↦ (λ z. ((order, x), l), λ f. number_of a)
      | room order a k x m l ↦ (λ z. absurd (clash (number_of a) z (λ y. omega arith)), λ f. absurd (omega (arith, l, f.1)))
    ];
    accepted = λ p e. elim (result b out p e) [
      | none t o a k h n ↦ (λ z. absurd (clash (number_of a) z (λ y. omega arith)), λ f. absurd (n f.0.0 f.0.1))
      | short order a k x l ↦ (λ z. absurd (clash (number_of a) z (λ y. omega arith)), λ f. absurd (omega (arith, l, f.1)))
      | room order a k x m l ↦ (λ z. ((order, x), l), λ f. number_of a)
    ];
    order_written = λ p e z. elim (result b out p e) [
      | none t o a k h n ↦ absurd (clash (number_of a) z (λ y. omega arith))
      | short order a k x l ↦ absurd (clash (number_of a) z (λ y. omega arith))
      | room order a k x m l ↦ (order, x, m, ap (λ (y : Playability). y.steps) a, k)
    ];
    refusal_keeps = kept (parse b) refl;
    nothing_held = λ p e z. elim (result b out p e) [
      | none t o a k h n ↦ absurd (z (number_of a))
      | short order a k x l ↦ (ap (λ (y : Playability). y.task) a, ap (λ (y : Playability). y.offset) a)
      | room order a k x m l ↦ (ap (λ (y : Playability). y.task) a, ap (λ (y : Playability). y.offset) a)
    ];
  }
