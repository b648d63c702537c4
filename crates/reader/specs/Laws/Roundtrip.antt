-- Read-back: the meaning of a recording's bytes is that recording.
use Rattle.std.specs.Prelude.{Ok, ◌≡◌, true, drop}
use Rattle.std.proofs.Math.Path.{refl}
use Rattle.std.proofs.Common.{ap, ap₂, ◌∙◌, sym, arith, take-append-drop, take_at, drop-drop, lt-ltb, eq-eqb, ne_eqb}
use mathlib.Core.List.{List, [], ◌∷◌, ◌++◌, append_assoc, map}
use Prim.Native.Nat.{ℕ, suc, ◌+◌, ◌-◌, ◌≤◌, ◌<◌, zero, ◌*◌}
use Rattle.std.proofs.Math.ListN.{length, length-append, take, length-drop}
use Rattle.std.proofs.Math.Seq.{drop_at, length-take-le}
use Rattle.codec.specs.declared.Position.{Position}
use Rattle.codec.specs.declared.Op.{Op}
use Rattle.codec.specs.Encode.{head_object, head_objects, head, section, ordering, access, value_bytes, head_front}
use Rattle.codec.specs.Laws.Encode.{ordering-length, access-long, section-length, head-objects-length, head-length, head-object-length, head-front-length}
use Rattle.codec.specs.Field.{le2, le4, field2, field4}
use Rattle.codec.specs.Laws.Field.{field4-le4}
use Rattle.codec.specs.Kind.{length_of, head_kind_of}
use Rattle.codec.specs.Head.{head_length, head_step}
use Rattle.codec.specs.Limit.{max_tasks, max_objects, max_fields}
use Rattle.codec.specs.Laws.Limit.{within_test}
use Rattle.codec.specs.declared.number.Reason.TheVariants.{InBody, Misplaced}
use Rattle.codec.specs.Laws.Roundtrip.{FitsOp, read-ordering, read-access, read-section, read_head}
use Rattle.entries.specs.declared.Refusal.{Refusal}
use Rattle.entries.specs.declared.Limits.{Limits}
use Rattle.reader.specs.declared.Span.{Span}
use Rattle.entries.specs.Reading.{stop}
use Rattle.entries.specs.Recording.{Entry, Recording}
use Rattle.entries.specs.Bytes.{orderings_bytes, entry_bytes, entry_length, body_bytes, sections_bytes, bytes_of}
use Rattle.entries.proofs.Laws.Bytes.{entry_length_lem, entry-some}
use Rattle.reader.specs.Range.{PositionIn, OpIn, OrderingsIn, EntryIn, EntriesIn, BodyIn, BodiesIn, AllUnder, HeadIn, InRange}
use Rattle.entries.specs.Entry.{ordering_ok, on_record, access_of, entry_at, check_op}
use Rattle.entries.proofs.Laws.Entry.{entry-ordering, entry-step}
use Rattle.entries.specs.Body.{body_entries}
use Rattle.entries.proofs.Laws.Body.{body_end, body_step}
use Rattle.reader.specs.Section.{TaskBody, span_of, body_start, taken, section_body, on_section, section_at, sections_of}
use Rattle.reader.specs.Parse.{owners_of, values_of, all_below, sizes_ok, on_head, head_at, sections_after, parse, values_at}
use Rattle.codec.specs.Cell.{width_of}
use Rattle.codec.specs.Laws.Cell.{width_some, width_few, cells_are}
use Rattle.codec.specs.Laws.Head.{fields_back}
use Rattle.entries.proofs.Laws.EntryCase.{in_access}

-- T, N and the number of fields fit their fields
pub record Small (m : Limits) : Type 0 where
  pub tasks : m.tasks ≤ max_tasks
  pub objects : m.objects ≤ max_objects
  pub fields : m.fields ≤ max_fields

position_ok : (m : Limits) (p : Position) → PositionIn m p → ordering_ok m p ≡ true
unfolding ordering_ok
position_ok m p i = rw (lt-ltb p.task m.tasks i.below, ne_eqb p.task m.own i.other, lt-ltb 0 p.number i.some)

op_ok : (m : Limits) (o : Op) → OpIn m o → check_op m o ≡ Ok tt
op_ok m o i = (in_access m o (record { stands = i.stands; below = i.below; field_below = i.field_below }))

op_fits : (m : Limits) (o : Op) → Small m → OpIn m o → FitsOp o
op_fits m o s i = record {
  access = i.access;
  object = omega (arith, s.objects, i.below);
  field = omega (arith, i.field_below, width_few m.fields 8 s.fields (omega arith));
  value = i.fits;
  no_field = i.no_field;
  none = i.none;
}

module _ (m : Limits) (s : Small m) where
  -- an access with its orderings, followed by anything
  orderings_back : (ended : Refusal) (at : ℕ) (ps : List Position) (o : Op) (r : List ℕ) → OrderingsIn m ps → OpIn m o
      → entry_at m ended at (orderings_bytes ps ++ (access o ++ r)) ≡ Ok (record { orderings = ps; op = o })
  unfolding orderings_bytes on_record access_of
  orderings_back ended at [] o r i j =
      entry-step m ended at (access o ++ r) (omega (arith, length-append (access o) r, access-long o))
      ∙ rw (read-access o r (op_fits m o s j), op_ok m o j)
  orderings_back ended at (p ∷ ps) o r i j =
      let l : List ℕ = orderings_bytes ps ++ (access o ++ r) in
      rw append_assoc (entry-ordering m ended at (ordering p ++ l) p (omega (arith, length-append (ordering p) l, ordering-length p))
      (read-ordering p l (record { task = omega (arith, i.0.below, s.tasks); number = i.0.fits })) (position_ok m p i.0)
      ∙ rw (drop_at (ordering p) l 8 (ordering-length p), orderings_back (stop Misplaced at) (at + 8) ps o r i.1 j))

  pub entry_back : (ended : Refusal) (at : ℕ) (e : Entry) (r : List ℕ) → EntryIn m e → entry_at m ended at (entry_bytes e ++ r) ≡ Ok e
  unfolding entry_bytes
  entry_back ended at e r i = rw append_assoc (orderings_back ended at e.orderings e.op r i.orderings i.op)

  pub body_back : (at : ℕ) (es : List Entry) → EntriesIn m es → body_entries m at (body_bytes es) ≡ Ok es
  unfolding body_bytes
  body_back at [] i = body_end m at [] refl
  body_back at (e ∷ es) i =
      body_step m at (entry_bytes e ++ body_bytes es) (omega (arith, length-append (entry_bytes e) (body_bytes es), entry-some e))
      ∙ rw (entry_back (stop InBody at) at e (body_bytes es) i.0, drop_at (entry_bytes e) (body_bytes es) (entry_length e) (entry_length_lem e i.0.op.access), body_back (at + entry_length e) es i.1)

-- where the sections' bodies are, if the first section is at this offset
unfoldable pub placed : ℕ → List (List Entry) → List TaskBody
placed at [] = []
placed at (es ∷ bodies) =
    record { entries = es; start = body_start at; stop = body_start at + length (body_bytes es) } ∷ placed (body_start at + length (body_bytes es)) bodies

section_back : (m : Limits) → Small m → m.own < max_tasks → (at : ℕ) (es : List Entry) (r : List ℕ) → BodyIn m es
    → section_at m at (section m.own (length es) (length (body_bytes es)) ++ (body_bytes es ++ r))
    ≡ Ok (record { entries = es; start = body_start at; stop = body_start at + length (body_bytes es) })
unfolding section_at on_section section_body taken
section_back m s o at es r i =
    let L : ℕ = length (body_bytes es) in
    let h : List ℕ = section m.own (length es) L in
    rw (
      read-section m.own (length es) L (body_bytes es ++ r) (omega arith) i.count i.size (omega (arith, length-append (body_bytes es) r)),
      eq-eqb m.own m.own refl,
      drop_at h (body_bytes es ++ r) 12 (section-length m.own (length es) L),
      take_at (body_bytes es) r L refl,
      body_back m s (body_start at) es i.entries,
      eq-eqb (length es) (length es) refl,
    )

sections_back : (tasks objects fields : ℕ) → tasks ≤ max_tasks → objects ≤ max_objects → fields ≤ max_fields → (t at : ℕ) (bodies : List (List Entry)) → t + length bodies ≤ max_tasks
    → BodiesIn tasks objects fields t bodies → sections_of tasks objects fields (length bodies) t at (sections_bytes t bodies) ≡ Ok (placed at bodies)
unfolding sections_of sections_bytes placed
sections_back tasks objects fields ht ho hf t at [] h i = refl
sections_back tasks objects fields ht ho hf t at (es ∷ bodies) h i =
    let m : Limits = record { tasks = tasks; objects = objects; fields = fields; own = t } in
    let L : ℕ = length (body_bytes es) in
    let r : List ℕ = sections_bytes (suc t) bodies in
    let e : body_start at + L - at ≡ 12 + L = omega arith in
    let d : drop (12 + L) (section t (length es) L ++ (body_bytes es ++ r)) ≡ r =
    sym (drop-drop L 12 (section t (length es) L ++ (body_bytes es ++ r)))
    ∙ rw (drop_at (section t (length es) L) (body_bytes es ++ r) 12 (section-length t (length es) L), drop_at (body_bytes es) r L refl) in
    rw (
      append_assoc,
      section_back m (record { tasks = ht; objects = ho; fields = hf }) (omega arith) at es r i.0,
      e,
      d,
      sections_back tasks objects fields ht ho hf (suc t) (body_start at + L) bodies (omega arith) i.1,
    )

-- the entries of a head
value-bytes_back : (values r : List ℕ) → AllUnder 4294967296 values → values_at (length values) (value_bytes values ++ r) ≡ values
unfolding values_at value_bytes le2 le4 field2 field4
value-bytes_back [] r i = refl
value-bytes_back (v ∷ values) r i = ap₂ (λ (x : ℕ) (l : List ℕ). x ∷ l) (field4-le4 v i.0) (value-bytes_back values r i.1)

under_take : (n k : ℕ) (l : List ℕ) → AllUnder n l → AllUnder n (take k l)
under_take n zero l i = tt
under_take n (suc k) [] i = tt
under_take n (suc k) (x ∷ l) i = (i.0, under_take n k l i.1)

under_drop : (n k : ℕ) (l : List ℕ) → AllUnder n l → AllUnder n (drop k l)
under_drop n zero l i = i
under_drop n (suc k) [] i = tt
under_drop n (suc k) (x ∷ l) i = under_drop n k l i.1

module _ (width : ℕ) where
  -- behind the first object's entry
  entry-behind : (o : ℕ) (values r : List ℕ) → width ≤ length values → drop (head_step width) (head_object o (take width values) ++ r) ≡ r
  entry-behind o values r h =
      drop_at (head_object o (take width values)) r (head_step width) (head-object-length o (take width values) ∙ ap head_step (length-take-le width values h))

  owners_back : (owners values r : List ℕ) → length values ≡ length owners * width → owners_of width (length owners) (head_objects width owners values ++ r) ≡ owners
  unfolding owners_of head_objects head_object
  owners_back [] values r h = refl
  owners_back (o ∷ owners) values r h =
      let rest : List ℕ = head_objects width owners (drop width values) ++ r in
      rw (append_assoc, entry-behind o values rest (omega (arith, h)), owners_back owners (drop width values) r (rw length-drop (omega (arith, h))))

  values_back : (owners values r : List ℕ) → length values ≡ length owners * width → AllUnder 4294967296 values
      → values_of width (length owners) (head_objects width owners values ++ r) ≡ values
  unfolding values_of head_objects head_object
  values_back [] [] r h i = refl
  values_back [] (v ∷ values) r h i = absurd (omega (arith, h))
  values_back (o ∷ owners) values r h i =
      let rest : List ℕ = head_objects width owners (drop width values) ++ r in
      let l : length (take width values) ≡ width = length-take-le width values (omega (arith, h)) in
      let first : values_at width (value_bytes (take width values) ++ rest) ≡ take width values = rw l at (value-bytes_back (take width values) rest (under_take 4294967296 width values i)) in
      rw (
        append_assoc,
        entry-behind o values rest (omega (arith, h)),
        first,
        values_back owners (drop width values) r (rw length-drop (omega (arith, h))) (under_drop 4294967296 width values i),
      )
      (take-append-drop width values)

under_below : (n : ℕ) (l : List ℕ) → AllUnder n l → all_below n l ≡ true
unfolding all_below
under_below n [] i = refl
under_below n (x ∷ l) i = rw (lt-ltb x n i.0) (under_below n l i.1)

sizes_ok_lem : (t n w : ℕ) → 1 ≤ t → t ≤ max_tasks → 1 ≤ n → n ≤ max_objects → 1 ≤ w → w ≤ max_fields → sizes_ok t n w ≡ true
unfolding sizes_ok
sizes_ok_lem t n w a b c d e f = rw (within_test 1 max_tasks t a b, within_test 1 max_objects n c d, within_test 1 max_fields w e f)

head_back : (r : Recording) (rest : List ℕ) → HeadIn r.tasks r.fields r.owners r.values
    → head_at (head r.fields r.tasks r.owners r.values ++ rest) ≡ Ok (record { tasks = r.tasks; fields = r.fields; owners = r.owners; values = r.values })
unfolding head_at on_head head
head_back r rest i =
    let n : ℕ = length r.owners in
    let w : ℕ = width_of r.fields in
    let c : List ℕ = head_objects w r.owners r.values in
    let few = i.few_tasks in
    let each : length r.values ≡ n * w = cells_are r.fields n i.value_each in
    rw (
      append_assoc,
      read_head r.fields r.tasks n (c ++ rest) i.few_fields (omega arith) i.few_objects (omega (arith, length-append c rest, head-objects-length w r.owners r.values each)),
      drop_at (head_front r.fields r.tasks n) (c ++ rest) (length_of (head_kind_of r.fields)) (head-front-length r.fields r.tasks n),
      owners_back w r.owners r.values rest each,
      values_back w r.owners r.values rest each i.values_in,
      sizes_ok_lem r.tasks n w i.some_tasks i.few_tasks i.some_objects i.few_objects (width_some r.fields) (width_few r.fields 8 i.few_fields (omega arith)),
      under_below r.tasks r.owners i.owners_in,
      fields_back r.fields,
    )

-- the bodies' places in a recording's bytes
unfoldable pub spans_of : Recording → List Span
spans_of r = map span_of (placed (head_length r.fields (length r.owners)) r.bodies)

entries_placed : (at : ℕ) (bodies : List (List Entry)) → map (λ s. s.entries) (placed at bodies) ≡ bodies
unfolding placed
entries_placed at [] = refl
entries_placed at (es ∷ bodies) = ap (λ (l : List (List Entry)). es ∷ l) (entries_placed (body_start at + length (body_bytes es)) bodies)

-- THE READ-BACK LAW
pub parse_back : (r : Recording) → InRange r → parse (bytes_of r) ≡ Ok (record { recording = r; spans = spans_of r })
unfolding parse sections_after bytes_of spans_of
parse_back r i =
    let n : ℕ = length r.owners in
    let f : ℕ = r.fields in
    let h : List ℕ = head f r.tasks r.owners r.values in
    let o = i.body_each in
    let few = i.head.few_tasks in
    let q : sections_of r.tasks n f r.tasks 0 (head_length f n) (sections_bytes 0 r.bodies) ≡ Ok (placed (head_length f n) r.bodies) =
    rw o at (sections_back r.tasks n f few i.head.few_objects i.head.few_fields 0 (head_length f n) r.bodies (omega arith) i.bodies) in
    rw (
      head_back r (sections_bytes 0 r.bodies) i.head,
      drop_at h (sections_bytes 0 r.bodies) (head_length f n) (head-length f r.tasks r.owners r.values i.head.value_each),
      q,
      entries_placed (head_length f n) r.bodies,
    )
