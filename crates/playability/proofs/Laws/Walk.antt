-- The order of "lowest ready task first" through a recording: it is allowed, the lowest ready task is next at each place, and no task is
-- ready after it. A run's test for ready tasks and `Order.Ready` agree.
use Rattle.std.specs.Prelude.{Ok, ◌≡◌, refl, true, List, [], ◌∷◌, ◌++◌, ℕ, ◌+◌, ◌≤◌, ◌<◌, leb, length, get_or, take}
use Rattle.std.proofs.Math.Path.{sym}
use Rattle.std.proofs.Common.{ap, ◌∙◌, arith, length-append}
use Rattle.std.proofs.Math.Decide.{dec_lt, ℕ_discrete}
use borrow.Author.Tests.{lt-ltb, ltb-true, leb-true, le-leb}
use Rattle.std.proofs.Math.ListN.{get_or-append, get_or-eq_default}
use Rattle.std.proofs.lemmas.List.{take-append-le}
use Rattle.std.proofs.Math.Seq.{take-append_seam, get_or-append_seam}
use Rattle.codec.specs.declared.Op.{Op}
use Rattle.codec.specs.declared.Position.{Position}
use Rattle.codec.specs.Laws.Decide.{both_pass, never}
use Rattle.entries.specs.Recording.{Entry, no_entry}
use Rattle.reader.specs.Calls.{no_span}
use Rattle.reader.specs.Laws.Standing.{parse-stands}
use Rattle.reader.specs.Parse.{Parsed, parse}
use Rattle.history.specs.Closed.{Met}
use Rattle.pending.specs.declared.Run.{Run}
use Rattle.pending.specs.declared.TaskRun.{TaskRun}
use Rattle.pending.proofs.Laws.Moved.{moved-own, moved_other, moved-tasks}
use Rattle.pending.proofs.Laws.Next.{open_met}
use Rattle.pending.specs.Met.{all_met}
use Rattle.pending.specs.Next.{next_of}
use Rattle.pending.specs.Run.{task_at, done_of, moved_of}
use Rattle.replayer.proofs.Laws.Along.{along_opened, along_entry, along_moved, along_place}
use Rattle.replayer.proofs.Laws.OpenOf.{opened-stands}
use Rattle.replayer.specs.Laws.ReadyOf.{ready, nowhere}
use Rattle.replayer.proofs.Laws.ReadyOf.{ready-word}
use Rattle.replayer.proofs.Laws.Word.{zero_bit}
use Rattle.replayer.specs.OpenOf.{opened_run}
use Rattle.replayer.specs.ReadyOf.{has_left, is_ready, ready_of}
use Rattle.scheduler.specs.Schedule.{schedule_of, settled_of}
use Rattle.scheduler.specs.Laws.Lowest.{IsNext}
use Rattle.scheduler.proofs.Laws.Settled.{settled_keeps, settled_ends}
use Rattle.playability.specs.Order.{times, body_of, Ready, size_of}
use Rattle.playability.proofs.Laws.Order.{times-own, times-other, times_none, Stops, size-more}
use Rattle.playability.specs.Laws.Walk.{Reached}

-- met orderings, by the run's test and by counts
all-met : (runs : List TaskRun) (d : ℕ → ℕ) → ((s : ℕ) → done_of runs s ≡ d s) → (ps : List Position) → all_met runs ps ≡ true → Met d ps
unfolding all_met
all-met runs d g [] p = tt
all-met runs d g (o ∷ ps) p =
    let (first, rest) = both_pass (leb o.number (done_of runs o.task)) (all_met runs ps) p in
    (omega (arith, leb-true o.number (done_of runs o.task) first, g o.task), all-met runs d g ps rest)

met_all : (runs : List TaskRun) (d : ℕ → ℕ) → ((s : ℕ) → done_of runs s ≡ d s) → (ps : List Position) → Met d ps → all_met runs ps ≡ true
unfolding all_met
met_all runs d g [] m = refl
met_all runs d g (o ∷ ps) m = rw (le-leb o.number (done_of runs o.task) (omega (arith, m.0, g o.task))) (met_all runs d g ps m.1)

-- something that holds at each place of a list, with one more place
place-more : (P : List ℕ → ℕ → Type 0) (before : List ℕ) (t : ℕ) → ((n : ℕ) → n < length before → P (take n before) (get_or before n 0)) → P before t
    → (n : ℕ) → n < length (before ++ (t ∷ [])) → P (take n (before ++ (t ∷ []))) (get_or (before ++ (t ∷ [])) n 0)
place-more P before t all last n h = elim (dec_lt n (length before)) [
  | yes k ↦ rw (take-append-le n before (t ∷ []) (omega arith), get_or-append before (t ∷ []) 0 n k) (all n k)
  | no k ↦
      let l = length-append before (t ∷ []) in
      let e : n ≡ length before = omega arith in
      rw (e, take-append_seam before (t ∷ []), get_or-append_seam before t [] 0) last
]

module _ (b : List ℕ) (bodies : List (List Entry)) (starts : ℕ → ℕ) (r : Run) (before : List ℕ) (w : Reached b bodies starts r before) where
  -- a ready task is one of the recording's
  pub ready-below : (t : ℕ) → Ready bodies before t → t < r.tasks
  ready-below t x = elim (dec_lt t r.tasks) [
    | yes h ↦ h
    | no h ↦ absurd (omega (arith, x.left, ap length (get_or-eq_default bodies [] {n = t} (omega (arith, w.each, h)))))
  ]

  module _ (t : ℕ) (h : t < r.tasks) where
    -- what the run's test compares
    tested : (task_at r.runs t).done < (task_at r.runs t).count → is_ready r b t ≡ all_met r.runs (get_or (body_of bodies t) (times t before) no_entry).orderings
    unfolding is_ready next_of
    tested l =
        rw (lt-ltb _ _ l, ← w.done t) (open_met r.runs (task_at r.runs t).place _ _ (along_entry b bodies r w.along t h l))

    pub ready_so : is_ready r b t ≡ true → Ready bodies before t
    unfolding is_ready
    ready_so q =
        let l : (task_at r.runs t).done < (task_at r.runs t).count = ltb-true _ _ (both_pass (has_left r t) _ q).0 in
        record { left = omega (arith, l, w.done t, w.along.count t h); met = all-met r.runs (λ s. times s before) w.done _ (sym (tested l) ∙ q) }

    pub so_ready : Ready bodies before t → is_ready r b t ≡ true
    so_ready x = tested (omega (arith, x.left, w.done t, w.along.count t h)) ∙ met_all r.runs (λ s. times s before) w.done _ x.met

  -- one step more
  module _ (t : ℕ) (op : Op) (next : ℕ) (n : IsNext r b t op next) where
    is-ready : is_ready r b t ≡ true
    unfolding is_ready
    is-ready = rw (n.left, n.opens)

    lowest-now : (u : ℕ) → Ready bodies before u → t ≤ u
    lowest-now u x = elim (dec_lt u t) [
      | no h ↦ omega (arith, h)
      | yes h ↦
          let y = so_ready u (omega (arith, h, n.below)) x in
          let e : 0 + u ≡ u = omega arith in
          absurd (elim (ready-word r b w.along.sound).lowest [
            | ready l p g ↦ never (is_ready r b u) y (rw e at (g u (omega (arith, h, n.first))))
            | nowhere q g ↦ never (is_ready r b u) y (rw e at (g u (omega (arith, h, n.below))))
          ])
    ]

    left : (task_at r.runs t).done < (task_at r.runs t).count
    left = ltb-true _ _ n.left

    done_on : (u : ℕ) → done_of (moved_of r t next).runs u ≡ times u (before ++ (t ∷ []))
    done_on u = elim (ℕ_discrete u t) [
      | yes e ↦ rw (e, times-own t before) (omega (arith, w.done t, ap (λ (y : TaskRun). y.done) (moved-own r t next w.along.shaped n.few)))
      | no e ↦ rw (times-other u t before (λ q. e (sym q))) (omega (arith, w.done u, ap (λ (y : TaskRun). y.done) (moved_other r t next u e)))
    ]

    place-on : (u : ℕ) → u < r.tasks → (task_at (moved_of r t next).runs u).place ≡ starts u + size_of (take (times u (before ++ (t ∷ []))) (body_of bodies u))
    place-on u h = elim (ℕ_discrete u t) [
      | yes e ↦
          let k : times t before < length (body_of bodies t) = omega (arith, left, w.done t, w.along.count t n.below) in
          let q = rw (w.done t) at (along_place b bodies r w.along t n.below left op next n.opens) in
          rw (e, moved-own r t next w.along.shaped n.few, times-own t before, size-more (body_of bodies t) (times t before) k) (omega (arith, q, w.place t n.below))
      | no e ↦ rw (moved_other r t next u e, times-other u t before (λ q. e (sym q))) (w.place u h)
    ]

    pub reached-on : Reached b bodies starts (moved_of r t next) (before ++ (t ∷ []))
    reached-on = record {
      along = along_moved b bodies r w.along t n.below left op next n.opens;
      each = rw moved-tasks w.each;
      done = done_on;
      place = λ u h. place-on u (rw moved-tasks at h);
      allowed = place-more (λ xs u. Ready bodies xs u) before t w.allowed (ready_so t n.below is-ready);
      lowest = place-more (λ xs u. (v : ℕ) → Ready bodies xs v → u ≤ v) before t w.lowest lowest-now;
    }

  -- no task is ready by the word, so none is
  pub word_stops : (ready_of r b).word ≡ 0 → Stops bodies before
  word_stops z t x =
      let h = ready-below t x in
      never (is_ready r b t) (so_ready t h x) (sym ((ready-word r b w.along.sound).bit t h) ∙ rw z (zero_bit t))

-- the whole order of a recording
module _ (b : List ℕ) (p : Parsed) (e : parse b ≡ Ok p) where
  abbrev pub start_at : ℕ → ℕ
  start_at t = (get_or p.spans t no_span).start

  opened-reached : Reached b p.recording.bodies start_at (opened_run p) []
  unfolding size_of
  opened-reached =
      let s = opened-stands b p e in
      record {
        along = along_opened b p e;
        each = (parse-stands b p e).bodies_each;
        done = λ t. s.done t ∙ sym (times_none t);
        place = λ t h. rw (s.task t h, times_none t) (omega arith);
        allowed = λ n h. absurd (omega arith);
        lowest = λ n h. absurd (omega arith);
      }

  pub order-reached : Reached b p.recording.bodies start_at (settled_of b (opened_run p)) (schedule_of b (opened_run p))
  order-reached =
      settled_keeps b (λ r before. Reached b p.recording.bodies start_at r before) (λ r before t op next w n. reached-on b p.recording.bodies start_at r before w t op next n)
      (opened_run p) opened-reached.along.sound opened-reached.along.shaped opened-reached

  pub order_stops : Stops p.recording.bodies (schedule_of b (opened_run p))
  order_stops =
      word_stops b p.recording.bodies start_at (settled_of b (opened_run p)) (schedule_of b (opened_run p)) order-reached
      (settled_ends b (opened_run p) opened-reached.along.sound opened-reached.along.shaped)
