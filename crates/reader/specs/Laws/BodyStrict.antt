-- Strictness of a body: bytes read as accesses are exactly those accesses' bytes, and their numbers are in range.
use Rattle.std.specs.Prelude.{Result, Err, Ok, ◌≡◌, refl, true, not, List, [], ◌∷◌, ◌++◌, ℕ, zero, suc, ◌+◌, ◌*◌, ◌≤◌, eqb, ltb, length, drop}
use Rattle.std.proofs.Common.{ap, ◌∙◌, append_assoc, arith, length-drop, drop-drop, ltb-true}
use Rattle.std.proofs.lemmas.Bool.{eqb-false, not-true}
use Rattle.codec.specs.declared.Position.{Position}
use Rattle.codec.specs.declared.Op.{Op}
use Rattle.codec.specs.declared.Record.TheVariants.{Head, Section, Ordering, Access}
use Rattle.codec.specs.Laws.Decide.{passes, fails, split, both_pass}
use Rattle.codec.specs.Decode.{Decoded, record_of}
use Rattle.codec.specs.Encode.{ordering, op_length}
use Rattle.codec.specs.Field.{Bytes}
use Rattle.codec.specs.Laws.Field.{bytes_drop}
use Rattle.codec.specs.declared.number.Reason.TheVariants.{Misplaced, InBody}
use Rattle.codec.specs.Laws.Roundtrip.{FitsPosition, FitsOp}
use Rattle.codec.specs.Laws.Strict.{Begins, record_begins}
use Rattle.codec.specs.declared.number.Reason.{Reason}
use Rattle.entries.specs.declared.Refusal.{Refusal}
use Rattle.entries.specs.declared.Limits.{Limits}
use Rattle.entries.specs.Reading.{Reading, stop, mapped, and_then}
use Rattle.entries.specs.Recording.{Entry}
use Rattle.entries.specs.Bytes.{orderings_bytes, entry_bytes, entry_length, body_bytes}
use Rattle.entries.proofs.Laws.Bytes.{entry-long}
use Rattle.reader.specs.Range.{PositionIn, OpIn, EntryIn, EntriesIn}
use Rattle.entries.specs.Entry.{after, ordering_ok, on_record, access_of, entry_from, entry_at, alone, check_op}
use Rattle.entries.specs.Body.{body_from, body_entries}
use Rattle.entries.proofs.Laws.EntryCase.{access_in}

-- an entry: the bytes begin with it
abbrev Came : Limits → List ℕ → Reading Entry → Type 0
Came m b (Err c) = Unit {0}
Came m b (Ok e) = (b ≡ entry_bytes e ++ drop (entry_length e) b) × EntryIn m e

position_in : (m : Limits) (p : Position) → FitsPosition p → ordering_ok m p ≡ true → PositionIn m p
unfolding ordering_ok
position_in m p f ok =
    let x = both_pass (ltb p.task m.tasks) _ ok in
    let y = both_pass (not (eqb p.task m.own)) _ x.1 in
    record {
      below = ltb-true _ _ x.0;
      other = eqb-false p.task m.own (not-true _ y.0);
      some = ltb-true 0 p.number y.1;
      fits = f.number;
    }

op_in : (m : Limits) (o : Op) → FitsOp o → check_op m o ≡ Ok tt → OpIn m o
op_in m o f z =
    let w = access_in m o z in
    record { access = f.access; stands = w.stands; below = w.below; field_below = w.field_below; fits = f.value; no_field = f.no_field; none = f.none }

came_after : (m : Limits) (b : List ℕ) (p : Position) (x : Reading Entry) → b ≡ ordering p ++ drop 8 b → PositionIn m p → Came m (drop 8 b) x → Came m b (after p x)
unfolding entry_bytes orderings_bytes
came_after m b p (Err c) q i w = tt
came_after m b p (Ok e) q i w =
    let n : 8 * suc (length e.orderings) + op_length e.op ≡ 8 + (8 * length e.orderings + op_length e.op) = omega arith in (
      rw (append_assoc, append_assoc, n, ← drop-drop) (q ∙ ap (λ (l : List ℕ). ordering p ++ l) (rw append_assoc at w.0)),
      record { orderings = (i, w.1.orderings); op = w.1.op },
    )

came_record : (m : Limits) (at : ℕ) (r : Decoded) (b : List ℕ) (rest : List ℕ → Reading Entry) → Begins r b → Came m (drop 8 b) (rest (drop 8 b)) → Came m b (on_record m at r b rest)
unfolding on_record access_of entry_bytes orderings_bytes
came_record m at (Ok (Head kind t n width)) b rest q w = tt
came_record m at (Ok (Section t n s)) b rest q w = tt
came_record m at (Ok (Ordering p)) b rest q w = elim (split (ordering_ok m p)) [
  | passes ok ↦ rw ok (came_after m b p (rest (drop 8 b)) q.0 (position_in m p q.1 ok) w)
  | fails ok ↦ rw ok tt
]
came_record m at (Ok (Access o)) b rest q w = go (check_op m o) refl
  where
    go : (x : Result (Unit {0}) Reason) → check_op m o ≡ x → Came m b (alone at o x)
    go (Ok u) ok = let n : 8 * 0 + op_length o ≡ op_length o = omega arith in rw n (q.0, record { orderings = tt; op = op_in m o q.1 ok })
    go (Err r) ok = tt
came_record m at (Err f) b rest q w = tt

entry-from : (f : ℕ) (m : Limits) (ended : Refusal) (at : ℕ) (b : List ℕ) → Bytes b → Came m b (entry_from f m ended at b)
unfolding entry_from
entry-from zero m ended at b by = tt
entry-from (suc f) m ended at [] by = tt
entry-from (suc f) m ended at (x ∷ b) by =
    came_record m at (record_of (x ∷ b)) (x ∷ b) (λ r. entry_from f m (stop Misplaced at) (at + 8) r) (record_begins (x ∷ b) by)
    (entry-from f m (stop Misplaced at) (at + 8) (drop 8 (x ∷ b)) (bytes_drop 8 (x ∷ b) by))

entry_came : (m : Limits) (ended : Refusal) (at : ℕ) (b : List ℕ) → Bytes b → Came m b (entry_at m ended at b)
unfolding entry_at
entry_came m ended at b by = entry-from (length b) m ended at b by

-- a body: the bytes are its accesses'
abbrev pub CameBody : Limits → List ℕ → Reading (List Entry) → Type 0
CameBody m b (Err c) = Unit {0}
CameBody m b (Ok es) = (b ≡ body_bytes es) × EntriesIn m es

came_more : (m : Limits) (b : List ℕ) (e : Entry) (x : Reading (List Entry)) → b ≡ entry_bytes e ++ drop (entry_length e) b → EntryIn m e
    → CameBody m (drop (entry_length e) b) x → CameBody m b (mapped (λ es. e ∷ es) x)
unfolding body_bytes
came_more m b e (Err c) q i w = tt
came_more m b e (Ok es) q i w = (q ∙ ap (λ (l : List ℕ). entry_bytes e ++ l) w.0, (i, w.1))

body_from_lem : (f : ℕ) (m : Limits) (at : ℕ) (b : List ℕ) → length b ≤ f → Bytes b → CameBody m b (body_from f m at b)
unfolding body_from body_bytes
body_from_lem zero m at [] h by = (refl, tt)
body_from_lem zero m at (x ∷ b) h by = absurd (omega arith)
body_from_lem (suc f) m at [] h by = (refl, tt)
body_from_lem (suc f) m at (x ∷ b) h by =
    go (λ e i. body_from_lem f m (at + entry_length e) (drop (entry_length e) (x ∷ b)) (rw length-drop (omega (arith, entry-long e i.op.access))) (bytes_drop (entry_length e) (x ∷ b) by))
    (entry_at m (stop InBody at) at (x ∷ b)) (entry_came m (stop InBody at) at (x ∷ b) by)
  where
    go : ((e : Entry) → EntryIn m e → CameBody m (drop (entry_length e) (x ∷ b)) (body_from f m (at + entry_length e) (drop (entry_length e) (x ∷ b))))
        → (y : Reading Entry) → Came m (x ∷ b) y
        → CameBody m (x ∷ b) (and_then y (λ e. mapped (λ es. e ∷ es) (body_from f m (at + entry_length e) (drop (entry_length e) (x ∷ b)))))
    go ih (Err c) w = tt
    go ih (Ok e) w = came_more m (x ∷ b) e (body_from f m (at + entry_length e) (drop (entry_length e) (x ∷ b))) w.0 w.1 (ih e w.1)

pub body_came : (m : Limits) (at : ℕ) (b : List ℕ) → Bytes b → CameBody m b (body_entries m at b)
unfolding body_entries
body_came m at b by = body_from_lem (length b) m at b (omega arith) by

pub body_strict : (m : Limits) (at : ℕ) (b : List ℕ) (es : List Entry) → Bytes b → body_entries m at b ≡ Ok es → (b ≡ body_bytes es) × EntriesIn m es
body_strict m at b es by q = rw q at (body_came m at b by)
