-- What is left of a task's body, as the accesses that its bytes read as: all of them at the start, one less after each step of that task,
-- unchanged by a step of another. The next entry is the first of them.
use Rattle.std.specs.Prelude.{Err, Ok, ◌≡◌, refl, List, [], ◌∷◌, ℕ, ◌+◌, ◌≤◌, ◌<◌, length, get_or, drop}
use Rattle.std.proofs.Common.{sym, ap, ◌∙◌, arith}
use Rattle.codec.specs.declared.number.Reason.TheVariants.{InBody}
use Rattle.codec.specs.Limit.{max_tasks}
use Rattle.entries.specs.declared.Limits.{Limits}
use Rattle.reader.specs.Laws.Bodies.{parse-bodies}
use Rattle.entries.specs.Body.{body_entries}
use Rattle.entries.proofs.Laws.Body.{body_end, body_step}
use Rattle.entries.specs.Bytes.{entry_length}
use Rattle.reader.specs.Calls.{no_span}
use Rattle.entries.specs.Entry.{entry_at}
use Rattle.reader.specs.Parse.{Parsed, parse}
use Rattle.entries.specs.Part.{part}
use Rattle.entries.proofs.Laws.EntryCase.{entry_entered}
use Rattle.entries.proofs.Laws.Part.{part_length, part-drop}
use Rattle.entries.specs.Reading.{Reading, stop, mapped, and_then}
use Rattle.entries.specs.Recording.{Entry}
use Rattle.pending.specs.declared.TaskRun.{TaskRun}
use Rattle.pending.specs.declared.Run.{Run}
use Rattle.pending.specs.Run.{task_at, limits_of, advanced, moved_of}
use Rattle.pending.specs.Next.{entry_next}
use Rattle.pending.specs.Laws.Moved.{Shaped}
use Rattle.pending.proofs.Laws.Moved.{moved-own, moved_other}
use Rattle.replayer.specs.OpenOf.{start_of, opened_run}
use Rattle.replayer.proofs.Laws.OpenOf.{opened-stands}
use Rattle.replayer.specs.Laws.Left.{First, Left, LeftOf, LeftWhole}

first_of : (m : Limits) (at : ℕ) (e : Entry) (es : List Entry) (l : List ℕ) (y : Reading Entry)
    → and_then y (λ f. mapped (λ fs. f ∷ fs) (body_entries m (at + entry_length f) (drop (entry_length f) l))) ≡ Ok (e ∷ es)
    → (y ≡ Ok e) × (body_entries m (at + entry_length e) (drop (entry_length e) l) ≡ Ok es)
first_of m at e es l (Err c) h = absurd (let z : ◌≡◌ {A = ℕ} 0 1 = cc in omega arith)
first_of m at e es l (Ok f) h = go (body_entries m (at + entry_length f) (drop (entry_length f) l)) refl h
  where
    go : (z : Reading (List Entry)) → body_entries m (at + entry_length f) (drop (entry_length f) l) ≡ z → mapped (λ fs. f ∷ fs) z ≡ Ok (e ∷ es)
        → ◌≡◌ {A = Reading Entry} (Ok f) (Ok e) × (body_entries m (at + entry_length e) (drop (entry_length e) l) ≡ Ok es)
    go (Err c) q k = absurd (let z : ◌≡◌ {A = ℕ} 0 1 = cc in omega arith)
    go (Ok fs) q k =
        let a : f ≡ e = cc in
        let b : fs ≡ es = cc in
        (ap Ok a, rw (← a, ← b) q)

left-first : (m : Limits) (x : TaskRun) (b : List ℕ) (e : Entry) (es : List Entry) → LeftOf m x b (e ∷ es) → First m x b e es
left-first m x b e es h = go (part x.place x.end b) refl
  where
    go : (l : List ℕ) → part x.place x.end b ≡ l → First m x b e es
    go [] q = absurd (
        let y : Ok [] ≡ Ok (e ∷ es) = sym (body_end m x.place (part x.place x.end b) q) ∙ h in
        let z : ◌≡◌ {A = ℕ} 0 1 = cc in
        omega arith)
    go (c ∷ l) q =
        let k : 0 < length (part x.place x.end b) = rw q (omega arith) in
        let w = first_of m x.place e es (part x.place x.end b) (entry_at m (stop InBody x.place) x.place (part x.place x.end b))
        (sym (body_step m x.place (part x.place x.end b) k) ∙ h) in
        record { entry = w.0; rest = rw (part-drop (entry_length e) x.place x.end b) at w.1 }

-- with nothing left a task is at its body's end
left-none : (m : Limits) (x : TaskRun) (b : List ℕ) → x.place ≤ x.end → x.end ≤ length b → LeftOf m x b [] → x.place ≡ x.end
left-none m x b p e h = go (part x.place x.end b) refl
  where
    none : (l : List ℕ) (y : Reading Entry) → and_then y (λ f. mapped (λ fs. f ∷ fs) (body_entries m (x.place + entry_length f) (drop (entry_length f) l))) ≡ Ok [] → ⊥
    none l (Err c) k = let z : ◌≡◌ {A = ℕ} 0 1 = cc in omega arith
    none l (Ok f) k = some (body_entries m (x.place + entry_length f) (drop (entry_length f) l)) k
      where
        some : (z : Reading (List Entry)) → mapped (λ fs. f ∷ fs) z ≡ Ok [] → ⊥
        some (Err c) q = let z : ◌≡◌ {A = ℕ} 0 1 = cc in omega arith
        some (Ok fs) q = let z : ◌≡◌ {A = ℕ} 0 1 = cc in omega arith

    go : (l : List ℕ) → part x.place x.end b ≡ l → x.place ≡ x.end
    go [] q = omega (arith, ap length q, part_length x.place x.end b e)
    go (c ∷ l) q =
        let k : 0 < length (part x.place x.end b) = rw q (omega arith) in
        absurd (none (part x.place x.end b) (entry_at m (stop InBody x.place) x.place (part x.place x.end b)) (sym (body_step m x.place (part x.place x.end b) k) ∙ h))

-- what is left tells a task's place
pub left-place : (es : List Entry) (m : Limits) (x y : TaskRun) (b : List ℕ) → x.end ≡ y.end → x.place ≤ x.end → y.place ≤ y.end → x.end ≤ length b
    → LeftOf m x b es → LeftOf m y b es → x.place ≡ y.place
left-place [] m x y b e p q l h k = omega (arith, left-none m x b p l h, left-none m y b q (omega arith) k)
left-place (f ∷ es) m x y b e p q l h k =
    let a = left-first m x b f es h in
    let c = left-first m y b f es k in
    let v = (entry_entered m _ _ _ f a.entry).within in
    let w = (entry_entered m _ _ _ f c.entry).within in
    let i = left-place es m (advanced x (x.place + entry_length f)) (advanced y (y.place + entry_length f)) b e
    (omega (arith, v, part_length x.place x.end b l)) (omega (arith, w, part_length y.place y.end b (omega arith))) l a.rest c.rest in
    omega (arith, i)

module _ (r : Run) (b : List ℕ) (t : ℕ) where
  -- the next entry is the first that is left
  pub left-entry : (e : Entry) (es : List Entry) → Left r b t (e ∷ es) → entry_next r b t ≡ Ok e
  unfolding entry_next
  left-entry e es h = (left-first (limits_of r t) (task_at r.runs t) b e es h).entry

  -- a step of the task removes it
  pub left-own : (e : Entry) (es : List Entry) → Shaped r → t < max_tasks → Left r b t (e ∷ es) → Left (moved_of r t ((task_at r.runs t).place + entry_length e)) b t es
  unfolding moved_of
  left-own e es s k h = rw (moved-own r t ((task_at r.runs t).place + entry_length e) s k) (left-first (limits_of r t) (task_at r.runs t) b e es h).rest

  -- a step of another task makes no difference
  pub left_other : (u next : ℕ) (es : List Entry) → (t ≡ u → ⊥) → Left r b t es → Left (moved_of r u next) b t es
  unfolding moved_of
  left_other u next es d h = rw (moved_other r u next t d) h

pub left-opened : (b : List ℕ) (p : Parsed) → parse b ≡ Ok p → (t : ℕ) → t < p.recording.tasks → LeftWhole b p t
left-opened b p e t h =
    let k : task_at (opened_run p).runs t ≡ start_of (get_or p.spans t no_span) = (opened-stands b p e).task t h in
    record { left = rw k (parse-bodies b p e t h).reads; count = rw k (parse-bodies b p e t h).accesses }
