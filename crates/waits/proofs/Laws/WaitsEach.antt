-- A task that has accesses left and is not ready, and whose next entry can be read, has its line.
use Rattle.std.specs.Prelude.{Ok, ◌≡◌, refl, Bool, true, false, List, [], ◌∷◌, ℕ, ◌+◌, ◌<◌, leb}
use Rattle.std.proofs.Common.{sym, ◌∙◌, arith, ltb-true}
use Rattle.codec.specs.declared.Position.{Position}
use Rattle.codec.specs.Kind.{ordering_kind, length_of}
use Rattle.codec.specs.Laws.Decide.{passes, fails, split}
use Rattle.entries.specs.Recording.{Entry}
use Rattle.pending.specs.declared.Run.{Run}
use Rattle.pending.specs.declared.TaskRun.{TaskRun}
use Rattle.pending.specs.Met.{all_met}
use Rattle.pending.specs.Next.{entry_next, judged, next_of, is_open}
use Rattle.replayer.specs.Laws.Along.{Along}
use Rattle.replayer.proofs.Laws.Along.{along_entry}
use Rattle.replayer.specs.ReadyOf.{has_left, is_ready, ready_of}
use Rattle.replayer.proofs.Laws.ReadyOf.{ready-word}
use Rattle.replayer.proofs.Laws.Word.{zero_bit}
use Rattle.pending.specs.Run.{task_at, done_of}
use Rattle.pending.specs.Unmet.{Unmet, first, unmet_of, unmet_in, unmet_next}
use Rattle.waits.specs.Waits.{wait_line, wait_of}
use Rattle.waits.specs.Laws.WaitsEach.{Held, Waiting}

-- orderings that are not all met have a first unmet one
some-unmet : (runs : List TaskRun) (at : ℕ) (ps : List Position) → all_met runs ps ≡ false → Held (unmet_of runs at ps)
unfolding all_met unmet_of
some-unmet runs at [] h = absurd (let z : ◌≡◌ {A = Bool} true false = h in let y : ◌≡◌ {A = ℕ} 0 1 = cc in omega arith)
some-unmet runs at (p ∷ ps) h = elim (split (leb p.number (done_of runs p.task))) [
  | passes q ↦ rw q (some-unmet runs (at + length_of ordering_kind) ps (rw q at h))
  | fails q ↦ rw q (record { place = at; ordering = p; is = refl })
]

not-met : (runs : List TaskRun) (at : ℕ) (e : Entry) → is_open (judged runs at (Ok e)) ≡ false → all_met runs e.orderings ≡ false
unfolding judged
not-met runs at e h = elim (split (all_met runs e.orderings)) [
  | passes q ↦ absurd (let z : ◌≡◌ {A = Bool} true false = rw q at h in let y : ◌≡◌ {A = ℕ} 0 1 = cc in omega arith)
  | fails q ↦ q
]

module _ (b : List ℕ) (r : Run) (t : ℕ) (l : has_left r t ≡ true) (n : is_ready r b t ≡ false) (e : Entry) (q : entry_next r b t ≡ Ok e) where
  next-held : Held (unmet_next r b t)
  unfolding unmet_next unmet_in is_ready next_of
  next-held = rw q (some-unmet r.runs (task_at r.runs t).place e.orderings (not-met r.runs (task_at r.runs t).place e (rw (l, q) at n)))

  line_so : (u : Unmet) → unmet_next r b t ≡ u → wait_of b r t ≡ wait_line t u
  unfolding wait_of
  line_so u h = rw (l, h)

  pub wait_each : Waiting b r t
  wait_each = let h = next-held in record { place = h.place; ordering = h.ordering; unmet = h.is; line = line_so (first h.place h.ordering) h.is }

-- on the way through a recording what is next for a task can be read: if no task is ready, each one that has accesses left has its line
module _ (b : List ℕ) (bodies : List (List Entry)) (r : Run) (w : Along b bodies r) (z : (ready_of r b).word ≡ 0) where
  pub waits_each : (t : ℕ) → t < r.tasks → has_left r t ≡ true → Waiting b r t
  waits_each t h l = wait_each b r t l (sym ((ready-word r b w.sound).bit t h) ∙ rw z (zero_bit t)) _ (along_entry b bodies r w t h (ltb-true _ _ l))
