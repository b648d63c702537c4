-- Facts about an access that may be done: it was read from the task's place, its object is below N, and it ends within the body.
use Rattle.codec.specs.Reason.{number_of}
use Rattle.std.specs.Prelude.{None, Err, Ok, ◌≡◌, refl, Bool, true, false, cond, List, ℕ, ◌+◌, ◌≤◌, ◌<◌, length}
use Rattle.std.proofs.Common.{sym, ap}
use native.Mathlib.Omega.{arith}
use Rattle.entries.specs.declared.Refusal.{Refusal}
use Rattle.entries.specs.Reading.{stop, Reading}
use Rattle.codec.specs.declared.Op.{Op}
use Rattle.codec.specs.Laws.Decide.{passes, fails, split}
use Rattle.codec.specs.Encode.{op_length}
use Rattle.codec.specs.Kind.{is_access}
use Rattle.codec.specs.Number.{ByReader}
use Rattle.codec.specs.declared.number.Reason.TheVariants.{InBody}
use Rattle.entries.specs.Bytes.{entry_length}
use Rattle.entries.proofs.Laws.Bytes.{entry-long}
use Rattle.entries.proofs.Laws.Entry.{entry-access}
use Rattle.entries.specs.Laws.EntryCase.{Entered, AccessIn}
use Rattle.entries.proofs.Laws.EntryCase.{entry_entered}
use Rattle.entries.specs.Part.{part}
use Rattle.entries.proofs.Laws.Part.{part_length}
use Rattle.entries.proofs.Laws.Numbered.{entry-numbered}
use Rattle.entries.specs.Laws.Reading.{Numbered}
use Rattle.entries.specs.Recording.{Entry}
use Rattle.pending.specs.declared.TaskRun.{TaskRun}
use Rattle.pending.specs.declared.Run.{Run}
use Rattle.pending.specs.declared.next.Open.{Open}
use Rattle.pending.specs.Run.{task_at, limits_of, cell_count}
use Rattle.pending.specs.Met.{all_met}
use Rattle.pending.specs.Next.{may_go, entry_next, judged, next_of, is_open}
use Rattle.codec.specs.Cell.{cell_of}
use Rattle.codec.specs.Laws.Cell.{cell_below}
use Rattle.pending.specs.Laws.Next.{OpenEntry}

pub judged_open : (runs : List TaskRun) (at : ℕ) (x : Reading Entry) (o : Op) (n : ℕ) → judged runs at x ≡ may_go o n → OpenEntry runs at x o n
unfolding judged
judged_open runs at (Err c) o n h = absurd (let z : ◌≡◌ {A = ℕ} 0 1 = cc in omega arith)
judged_open runs at (Ok e) o n h = elim (split (all_met runs e.orderings)) [
  | passes p ↦
      let y : may_go e.op (at + entry_length e) ≡ may_go o n = rw p at h in
      let z : record { op = e.op; next = at + entry_length e } ≡ record { op = o; next = n } = cc in
      record { entry = e; reads = refl; met = p; op = sym (ap (λ (w : Open). w.op) z); next = sym (ap (λ (w : Open). w.next) z) }
  | fails p ↦ absurd (let y : Ok None ≡ may_go o n = rw p at h in let z : ◌≡◌ {A = ℕ} 0 1 = cc in omega arith)
]

judged-refused : (runs : List TaskRun) (at : ℕ) (x : Reading Entry) (c : Refusal) → Numbered x → judged runs at x ≡ Err c → ByReader (number_of c.reason)
unfolding judged
judged-refused runs at (Err d) c p h = let e : d ≡ c = cc in rw (← e) p
judged-refused runs at (Ok e) c p h = elim (split (all_met runs e.orderings)) [
  | passes q ↦ absurd (let y : may_go e.op (at + entry_length e) ≡ Err c = rw q at h in let z : ◌≡◌ {A = ℕ} 0 1 = cc in omega arith)
  | fails q ↦ absurd (let y : Ok None ≡ Err c = rw q at h in let z : ◌≡◌ {A = ℕ} 0 1 = cc in omega arith)
]

module _ (r : Run) (b : List ℕ) (t : ℕ) where
  pub next-entry : (o : Op) (n : ℕ) → next_of r b t ≡ may_go o n → OpenEntry r.runs (task_at r.runs t).place (entry_next r b t) o n
  unfolding next_of
  next-entry o n h = judged_open r.runs (task_at r.runs t).place (entry_next r b t) o n h

  entered : (o : Op) (n : ℕ) (h : next_of r b t ≡ may_go o n)
      → Entered (limits_of r t) (part (task_at r.runs t).place (task_at r.runs t).end b) (next-entry o n h).entry
  unfolding entry_next
  entered o n h = entry_entered (limits_of r t) (stop InBody (task_at r.runs t).place) (task_at r.runs t).place
      (part (task_at r.runs t).place (task_at r.runs t).end b) (next-entry o n h).entry (next-entry o n h).reads

  access : (o : Op) (n : ℕ) (h : next_of r b t ≡ may_go o n) → is_access (next-entry o n h).entry.op.kind ≡ true
  unfolding entry_next
  access o n h = entry-access (limits_of r t) (stop InBody (task_at r.runs t).place) (task_at r.runs t).place
      (part (task_at r.runs t).place (task_at r.runs t).end b) (next-entry o n h).entry (next-entry o n h).reads

  pub next_inside : (o : Op) (n : ℕ) → next_of r b t ≡ may_go o n → AccessIn (limits_of r t) o
  next_inside o n h = rw (next-entry o n h).op (entered o n h).inside

  -- its cell is one of the memory's
  pub next-below : (o : Op) (n : ℕ) → next_of r b t ≡ may_go o n → cell_of r.fields o.object o.field < cell_count r
  next-below o n h = let w = next_inside o n h in cell_below r.fields r.objects o.object o.field w.below w.field_below

  pub next-within : (o : Op) (n : ℕ) → next_of r b t ≡ may_go o n → (task_at r.runs t).end ≤ length b → ((task_at r.runs t).place < n) × (n ≤ (task_at r.runs t).end)
  next-within o n h k =
      let w = next-entry o n h in
      let l = part_length (task_at r.runs t).place (task_at r.runs t).end b k in
      let g = (entered o n h).within in
      let s = entry-long w.entry (access o n h) in
      let e = w.next in
      (omega arith, omega arith)

  -- an access's record ends where the next begins
  pub next-long : (o : Op) (n : ℕ) → next_of r b t ≡ may_go o n → op_length o ≤ n
  next-long o n h = let w = next-entry o n h in omega (arith, w.next, ap (λ (x : Op). op_length x) w.op)

  -- a refusal's number is one of the reader's
  pub next-numbered : (c : Refusal) → next_of r b t ≡ Err c → ByReader (number_of c.reason)
  unfolding next_of entry_next
  next-numbered c h = judged-refused r.runs (task_at r.runs t).place (entry_next r b t) c
      (entry-numbered (limits_of r t) (stop InBody (task_at r.runs t).place) (task_at r.runs t).place (part (task_at r.runs t).place (task_at r.runs t).end b) (omega arith, omega arith)) h

-- an entry that was read may be done exactly if its orderings are met
pub open_met : (runs : List TaskRun) (at : ℕ) (x : Reading Entry) (e : Entry) → x ≡ Ok e → is_open (judged runs at x) ≡ all_met runs e.orderings
unfolding judged
open_met runs at x e p = rw p (cases (all_met runs e.orderings))
  where
    cases : (b : Bool) → is_open (cond b (may_go e.op (at + entry_length e)) (Ok None)) ≡ b
    cases true = refl
    cases false = refl

-- and it is no refusal
pub judged-reads : (runs : List TaskRun) (at : ℕ) (x : Reading Entry) (e : Entry) → x ≡ Ok e → (c : Refusal) → judged runs at x ≡ Err c → ⊥
unfolding judged
judged-reads runs at x e p c r = cases (all_met runs e.orderings) (rw p at r)
  where
    cases : (b : Bool) → cond b (may_go e.op (at + entry_length e)) (Ok None) ≡ Err c → ⊥
    cases true h = let z : ◌≡◌ {A = ℕ} 0 1 = cc in omega arith
    cases false h = let z : ◌≡◌ {A = ℕ} 0 1 = cc in omega arith
