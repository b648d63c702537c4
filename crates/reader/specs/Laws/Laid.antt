-- What the layout and the head's entries say, for the crates above: the layout by the meaning of the bytes, and the starting values as
-- stored in the head.
use Rattle.std.specs.Prelude.{Err, Ok, ◌≡◌, refl, List, [], ◌∷◌, ◌++◌, length, get_or, drop}
use Rattle.std.proofs.Common.{ap, length-append, get_or-drop}
use Prim.Native.Nat.{ℕ, zero, suc, ◌+◌, ◌-◌, ◌≤◌, ◌<◌, ◌*◌}
use native.Mathlib.Omega.{arith}
use Rattle.std.proofs.Math.ListN.{get_or-append}
use Rattle.std.proofs.lemmas.List.Edits.{sets-eq}
use Rattle.std.proofs.Math.Seq.{drop-drop}
use Rattle.codec.specs.Kind.{length_of, head_kind_of}
use Rattle.codec.specs.declared.Record.TheVariants.{Head, Section, Ordering, Access}
use Rattle.codec.specs.Decode.{Decoded, record_of}
use Rattle.codec.specs.Field.{field2, field4}
use Rattle.codec.specs.Head.{head_length, head_step, value_behind}
use Rattle.reader.specs.declared.layout.Layout.{Layout}
use Rattle.entries.specs.Reading.{Reading, mapped}
use Rattle.entries.specs.Records.{records_in}
use Rattle.reader.specs.Section.{TaskBody}
use Rattle.reader.specs.Parse.{HeadFields, Parsed, parsed_of, values_of, on_head, head_at, sections_after, parse, values_at}
use Rattle.reader.specs.Laws.HeadCode.{Headed, head_facts, owners-count, head-from}
use Rattle.reader.specs.Calls.{no_span}
use Rattle.reader.specs.Laws.Standing.{Standing, parse-stands}
use Rattle.reader.specs.Layout.{blank_spans, laid, layout_of}
use Rattle.codec.specs.Cell.{width_of}
use Rattle.codec.specs.Laws.Head.{width_back, kind_back}
use Rattle.codec.specs.Laws.Within.{Within, record-within}

-- the layout of bytes that were read
pub record Laid (p : Parsed) (l : Layout) : Type 0 where
  pub tasks : l.tasks ≡ p.recording.tasks
  pub objects : l.objects ≡ length p.recording.owners
  pub fields : l.fields ≡ p.recording.fields
  pub records : l.records ≡ records_in p.recording
  pub span : (t : ℕ) → t < p.recording.tasks → get_or l.spans t no_span ≡ get_or p.spans t no_span

-- bytes that read have a layout, and it is that of what was read
pub laid_read : (b : List ℕ) (p : Parsed) → parse b ≡ Ok p → (layout_of (parse b) ≡ Ok (laid p)) × Laid p (laid p)
unfolding layout_of
laid_read b p e =
    let w : Standing b p = parse-stands b p e in
    let o = w.one_each in
    let f = w.few_tasks in (
      rw e refl,
      record {
        tasks = refl;
        objects = refl;
        fields = refl;
        records = refl;
        span = λ t h. rw (sets-eq p.spans blank_spans 0 (omega arith), get_or-append p.spans (drop (0 + length p.spans) blank_spans) no_span t (omega arith));
      },
    )

-- the starting values: four bytes each, after the owner
field2-drop : (n i : ℕ) (b : List ℕ) → field2 (drop n b) i ≡ field2 b (n + i)
unfolding field2
field2-drop n i b = let e : n + (i + 1) ≡ n + i + 1 = omega arith in rw (get_or-drop n b i 0, get_or-drop n b (i + 1) 0, e)

field4-drop : (n i : ℕ) (b : List ℕ) → field4 (drop n b) i ≡ field4 b (n + i)
unfolding field4
field4-drop n i b = let e : n + (i + 2) ≡ n + i + 2 = omega arith in rw (field2-drop n i b, field2-drop n (i + 2) b, e)

pub values-at-next : (k i place : ℕ) (b : List ℕ) → i < k → values_at (k - i) (drop place b) ≡ field4 b place ∷ values_at (k - (i + 1)) (drop (place + 4) b)
unfolding values_at
values-at-next k i place b h =
    let e : k - i ≡ suc (k - (i + 1)) = omega arith in
    let z : place + 0 ≡ place = omega arith in
    rw (e, field4-drop, drop-drop, z)

pub values-at-end : (k i : ℕ) (b : List ℕ) → k ≤ i → values_at (k - i) b ≡ []
unfolding values_at
values-at-end k i b h = let e : k - i ≡ 0 = omega arith in rw e

pub values-at-count : (k : ℕ) (b : List ℕ) → length (values_at k b) ≡ k
unfolding values_at
values-at-count zero b = refl
values-at-count (suc k) b = ap suc (values-at-count k (drop 4 b))

module _ (width : ℕ) where
  pub values-next : (n i place : ℕ) (b : List ℕ) → i < n
      → values_of width (n - i) (drop place b) ≡ values_at width (drop (place + value_behind) b) ++ values_of width (n - (i + 1)) (drop (place + head_step width) b)
  unfolding values_of
  values-next n i place b h = let e : n - i ≡ suc (n - (i + 1)) = omega arith in rw (e, drop-drop, drop-drop)

  pub values-end : (n i : ℕ) (b : List ℕ) → n ≤ i → values_of width (n - i) b ≡ []
  unfolding values_of
  values-end n i b h = let e : n - i ≡ 0 = omega arith in rw e

  pub values-count : (n : ℕ) (b : List ℕ) → length (values_of width n b) ≡ n * width
  unfolding values_of
  values-count zero b = omega arith
  values-count (suc n) b =
      rw (length-append, values-at-count width (drop value_behind b), values-count n (drop (head_step width) b)) (omega arith)

-- the values of bytes that were read are those in the head, which is complete
pub record Valued (b : List ℕ) (p : Parsed) : Type 0 where
  pub values : p.recording.values
      ≡ values_of (width_of p.recording.fields) (length p.recording.owners) (drop (length_of (head_kind_of p.recording.fields)) b)
  pub within : head_length p.recording.fields (length p.recording.owners) ≤ length b

abbrev Values : List ℕ → HeadFields → Type 0
Values b h = h.values ≡ values_of (width_of h.fields) (length h.owners) (drop (length_of (head_kind_of h.fields)) b)

on-head-values : (b : List ℕ) (r : Decoded) (h : HeadFields) → Within r b → on_head b r ≡ Ok h → Values b h
unfolding on_head
on-head-values b (Ok (Head kind t n width)) h w p =
    let x = head-from b kind t n width h p in
    rw (← x.same, width_back w.0 x.some_cells, kind_back w.0 x.some_cells, owners-count width n (drop (length_of kind) b))
on-head-values b (Ok (Section t n s)) h w p = absurd (let z : ◌≡◌ {A = ℕ} 0 1 = cc in omega arith)
on-head-values b (Ok (Ordering q)) h w p = absurd (let z : ◌≡◌ {A = ℕ} 0 1 = cc in omega arith)
on-head-values b (Ok (Access o)) h w p = absurd (let z : ◌≡◌ {A = ℕ} 0 1 = cc in omega arith)
on-head-values b (Err f) h w p = absurd (let z : ◌≡◌ {A = ℕ} 0 1 = cc in omega arith)

valued : (b : List ℕ) (h : HeadFields) (p : Parsed) → Headed b h → Values b h → (r : Reading (List TaskBody))
    → mapped (parsed_of h) r ≡ Ok p → Valued b p
valued b h p w v (Err c) e = absurd (let z : ◌≡◌ {A = ℕ} 0 1 = cc in omega arith)
valued b h p w v (Ok l) e = let y : parsed_of h l ≡ p = cc in rw (← y) (record { values = v; within = w.within })

pub parse-valued : (b : List ℕ) (p : Parsed) → parse b ≡ Ok p → Valued b p
unfolding parse head_at
parse-valued b p e = go (head_at b) refl
  where
    go : (x : Reading HeadFields) → head_at b ≡ x → Valued b p
    go (Err c) q = absurd (let y : Err c ≡ Ok p = rw q at e in let z : ◌≡◌ {A = ℕ} 0 1 = cc in omega arith)
    go (Ok h) q = valued b h p (head_facts b h q) (on-head-values b (record_of b) h (record-within b) q) (sections_after h b) (rw q at e)
