-- Nothing is left out: for the bytes of a recording, the list of everything is the lines of that recording, record by record, and then how
-- many there are.
use Rattle.std.specs.Prelude.{Ok, ◌≡◌, None, drop}
use Rattle.std.proofs.Math.Path.{refl}
use Rattle.std.proofs.Common.{sym, ap, ◌∙◌, le-ltb, drop-drop, drop_at}
use mathlib.Core.List.{List, [], ◌∷◌, ◌++◌, append_assoc, append-nil}
use Prim.Native.Nat.{ℕ, suc, ◌+◌, ◌*◌, ◌-◌, ◌≤◌, ◌<◌}
use native.Mathlib.Omega.{arith}
use Rattle.std.proofs.Math.ListN.{length, length-append, length-drop}
use Rattle.codec.specs.declared.Position.{Position}
use Rattle.codec.specs.declared.Record.{Record}
use Rattle.codec.specs.declared.Record.TheVariants.{Head, Section, Ordering, Access}
use Rattle.codec.specs.Cell.{width_of}
use Rattle.codec.specs.Decode.{record_of}
use Rattle.codec.specs.Encode.{head_objects, head, section, ordering, access, op_length}
use Rattle.codec.specs.Field.{Bytes}
use Rattle.codec.specs.Head.{head_step, head_length}
use Rattle.codec.specs.Kind.{head_kind_of}
use Rattle.codec.specs.Laws.Cell.{width_few, cells_are}
use Rattle.codec.specs.Laws.Encode.{head-length, head-objects-length, section-length, ordering-length, access-length, access-long}
use Rattle.codec.specs.Laws.Head.{length-long, fields_back}
use Rattle.codec.specs.Laws.Roundtrip.{FitsPosition, FitsOp, read_head, read-section, read-ordering, read-access}
use Rattle.codec.specs.Limit.{max_fields}
use Rattle.entries.specs.Bytes.{orderings_bytes, entry_bytes, entry_length, body_bytes, sections_bytes, bytes_of}
use Rattle.entries.specs.declared.Limits.{Limits}
use Rattle.entries.proofs.Laws.Bytes.{entry_length_lem}
use Rattle.entries.specs.Recording.{Entry, Recording}
use Rattle.entries.specs.Records.{records_in}
use Rattle.reader.specs.Laws.Strict.{parse_strict}
use Rattle.reader.specs.Parse.{Parsed, parse}
use Rattle.reader.specs.Range.{OrderingsIn, EntryIn, EntriesIn, BodiesIn, InRange}
use Rattle.record_lines.specs.declared.Place.{Place}
use Rattle.record_lines.specs.RecordLines.{line_at, records_line}
use Rattle.replay_lines.specs.Limits.{longest}
use Rattle.listing.specs.Listed.{shows, listed, after_of, part_at, start}
use Rattle.listing.specs.RecordingLines.{orderings_lines, entry_lines, body_lines, sections_lines, recording_lines}
use Rattle.listing.specs.Text.{lines_to, is_missing, answer_of, text_of}
use Rattle.listing.specs.Laws.Reached.{Reached, reached-start, reached-on, reached_past}

module _ (b : List ℕ) where
  -- with everything listed, each record that is read has its line
  part-all : (p : Place) (r : Record) → part_at None p (Ok r) ≡ line_at p r
  unfolding part_at listed shows
  part-all p (Head kind t n width) = refl
  part-all p (Section t n size) = refl
  part-all p (Ordering q) = refl
  part-all p (Access o) = refl

  -- the walk is at a place, with these bytes from there on
  record Comes (text : List ℕ) (p : Place) (rest : List ℕ) : Type 0 where
    pub reached : Reached None b (length b) text p
    pub ahead : drop p.at b ≡ rest

  -- one record further
  comes_on : (x : List ℕ) {text rest : List ℕ} {p : Place} → Comes text p (x ++ rest) → (r : Record) → record_of (x ++ rest) ≡ Ok r
      → 0 < length x → (after_of p (Ok r)).at ≡ p.at + length x → Comes (text ++ line_at p r) (after_of p (Ok r)) rest
  comes_on x {text} {rest} {p} c r e h a =
      let d : record_of (drop p.at b) ≡ Ok r = rw c.ahead e in
      let l : length b - p.at ≡ length x + length rest = rw (length-drop, length-append) at (ap length c.ahead) in
      let w = reached-on None b (length b) text p c.reached (omega arith) (omega arith) (rw d (omega arith)) in
      record {
        reached = rw (← part-all p r) (rw d at w);
        ahead = rw a (sym (drop-drop (length x) p.at b) ∙ ap (drop (length x)) c.ahead ∙ drop_at x rest (length x) refl);
      }

  -- a body's records, given its limits
  module _ (m : Limits) (t : m.tasks ≤ 65536) (o : m.objects ≤ 65536) (u : m.fields ≤ max_fields) where
    orderings_come : (qs : List Position) (at own number : ℕ) {text rest : List ℕ} → OrderingsIn m qs
        → Comes text (record { at = at; own = own; number = number }) (orderings_bytes qs ++ rest)
        → Comes (text ++ orderings_lines at own qs) (record { at = at + 8 * length qs; own = own; number = number }) rest
    unfolding orderings_bytes orderings_lines line_at after_of
    orderings_come [] at own number w c = let z : at + 0 ≡ at = omega arith in rw (append-nil, z) c
    orderings_come (q ∷ qs) at own number {text} {rest} w c =
        let f : FitsPosition q = record { task = omega (arith, w.0.below); number = w.0.fits } in
        let d = comes_on (ordering q) (rw append_assoc at c) (Ordering q) (read-ordering q (orderings_bytes qs ++ rest) f) (rw ordering-length (omega arith)) (rw ordering-length) in
        let e : at + 8 * suc (length qs) ≡ at + 8 + 8 * length qs = omega arith in
        rw (e, ← append_assoc) (orderings_come qs (at + 8) own number w.1 d)

    entry_comes : (e : Entry) (at own number : ℕ) {text rest : List ℕ} → EntryIn m e
        → Comes text (record { at = at; own = own; number = number }) (entry_bytes e ++ rest)
        → Comes (text ++ entry_lines at own number e) (record { at = at + entry_length e; own = own; number = number + 1 }) rest
    unfolding entry_bytes entry_lines line_at after_of
    entry_comes e at own number {text} {rest} w c =
        let k = w.op.access in
        let f : FitsOp e.op = record {
          access = k;
          object = omega (arith, w.op.below);
          field = omega (arith, w.op.field_below, width_few m.fields max_fields u (omega arith));
          value = w.op.fits;
          no_field = w.op.no_field;
          none = w.op.none;
        } in
        let d = orderings_come e.orderings at own number w.orderings (rw append_assoc at c) in
        let s : at + entry_length e ≡ at + 8 * length e.orderings + op_length e.op = omega arith in
        rw (s, ← append_assoc)
        (comes_on (access e.op) d (Access e.op) (read-access e.op rest f) (omega (arith, access-long e.op)) (rw (access-length e.op k)))

    body_comes : (es : List Entry) (at own number : ℕ) {text rest : List ℕ} → EntriesIn m es
        → Comes text (record { at = at; own = own; number = number }) (body_bytes es ++ rest)
        → Comes (text ++ body_lines at own number es) (record { at = at + length (body_bytes es); own = own; number = number + length es }) rest
    unfolding body_bytes body_lines
    body_comes [] at own number w c =
        let z : at + 0 ≡ at = omega arith in
        let n : number + 0 ≡ number = omega arith in
        rw (append-nil, z, n) c
    body_comes (e ∷ es) at own number {text} {rest} w c =
        let d = entry_comes e at own number w.0 (rw append_assoc at c) in
        let s : at + length (entry_bytes e ++ body_bytes es) ≡ at + entry_length e + length (body_bytes es) = rw (length-append, entry_length_lem e w.0.op.access) (omega arith) in
        let n : number + suc (length es) ≡ number + 1 + length es = omega arith in
        rw (s, n, ← append_assoc) (body_comes es (at + entry_length e) own (number + 1) w.1 d)

  -- the sections, up to the end
  sections_come : (tasks objects fields : ℕ) → tasks ≤ 65536 → objects ≤ 65536 → fields ≤ max_fields → (bodies : List (List Entry)) (t : ℕ) (p : Place) {text : List ℕ} → t + length bodies ≤ 65536
      → BodiesIn tasks objects fields t bodies → Comes text p (sections_bytes t bodies) → lines_to None b (length b) ≡ text ++ sections_lines p.at t bodies
  unfolding sections_bytes sections_lines line_at after_of
  sections_come tasks objects fields ht ho hf [] t p {text} h w c =
      rw append-nil (reached_past None b (length b) text p c.reached (omega (arith, rw length-drop at (ap length c.ahead))))
  sections_come tasks objects fields ht ho hf (es ∷ bodies) t p {text} h w c =
      let m : Limits = record { tasks = tasks; objects = objects; fields = fields; own = t } in
      let z : length (body_bytes es) ≤ length (body_bytes es ++ sections_bytes (suc t) bodies) = rw length-append (omega arith) in
      let r = read-section t (length es) (length (body_bytes es)) (body_bytes es ++ sections_bytes (suc t) bodies) (omega arith) w.0.count w.0.size z in
      let d = comes_on (section t (length es) (length (body_bytes es))) (rw append_assoc at c) (Section t (length es) (length (body_bytes es))) r (rw section-length (omega arith)) (rw section-length) in
      let g = body_comes m ht ho hf es (p.at + 12) t 1 w.0.entries d in
      rw (← append_assoc, ← append_assoc) (sections_come tasks objects fields ht ho hf bodies (suc t) _ (omega arith) w.1 g)

-- the bytes of a recording in range
pub value-listed : (b : List ℕ) (r : Recording) → b ≡ bytes_of r → InRange r → lines_to None b (length b) ≡ recording_lines r
unfolding bytes_of recording_lines head line_at after_of
value-listed b r e i =
    let f : ℕ = r.fields in
    let n : ℕ = length r.owners in
    let h = i.head in
    let c : Comes b [] start (head f r.tasks r.owners r.values ++ sections_bytes 0 r.bodies) = record { reached = reached-start None b (length b); ahead = e } in
    let rest = head_objects (width_of f) r.owners r.values ++ sections_bytes 0 r.bodies in
    let z : n * head_step (width_of f) ≤ length rest = rw (length-append, head-objects-length (width_of f) r.owners r.values (cells_are f n h.value_each)) (omega arith) in
    let q = read_head f r.tasks n rest h.few_fields (omega (arith, h.few_tasks)) h.few_objects z in
    let k = head-length f r.tasks r.owners r.values h.value_each in
    let d = comes_on b (head f r.tasks r.owners r.values) c (Head (head_kind_of f) r.tasks n (width_of f)) (rw append_assoc q) (rw k (omega (arith, length-long f n))) (rw k (omega arith)) in
    let y : 0 + head_length f n ≡ head_length f n = omega arith in
    rw (y, fields_back) at (sections_come b r.tasks n f (omega (arith, h.few_tasks)) (omega (arith, h.few_objects)) h.few_fields r.bodies 0 _ (omega (arith, i.body_each, h.few_tasks)) i.bodies d)

-- the lines and their number are the whole text
pub value-shown : (b : List ℕ) (p : Parsed) → length b ≤ longest → parse b ≡ Ok p → b ≡ bytes_of p.recording → InRange p.recording
    → text_of None b ≡ recording_lines p.recording ++ records_line (records_in p.recording)
unfolding text_of answer_of is_missing
value-shown b p h e q i = rw (le-ltb longest (length b) h, e, value-listed b p.recording q i)

-- THE LIST IS COMPLETE: for all bytes that are read, the text of everything is the lines of the recording that they mean, and its number of
-- records
pub all_shown : (b : List ℕ) (p : Parsed) → Bytes b → length b ≤ longest → parse b ≡ Ok p
    → text_of None b ≡ recording_lines p.recording ++ records_line (records_in p.recording)
all_shown b p by h e = let s = parse_strict b p by e in value-shown b p h e s.bytes s.in_range
