-- A message about what was expected is about a line that is missing or wrong.
use Rattle.std.specs.Option.{unwrap_or}
use Rattle.std.specs.Prelude.{◌≡◌, refl, Option, Some, None, is_some, false, ℕ, ◌+◌, ◌<◌, ◌≤◌, eqb, ltb, length}
use Rattle.std.proofs.Math.Path.{ap}
use Rattle.std.proofs.Common.{◌∙◌, sym, true≢false, arith}
use mathlib.Core.List.{List, [], ◌∷◌}
use borrow.Author.Tests.{eq-eqb, ne_eqb, eqb-true, eqb-false}
use Rattle.codec.specs.Cell.{cell_of}
use Rattle.codec.specs.Laws.Decide.{passes, fails, split}
use Rattle.faults.specs.declared.kind.Kind.{Kind}
use Rattle.faults.specs.declared.kind.Kind.TheVariants.{Sizes as SizesLine, Owners, Starts, Access}
use Rattle.faults.specs.Kind.{first_of, kind_after, count_of}
use Rattle.faults.specs.Laws.ReadingCode.{reading_here, reading_on}
use Rattle.faults.specs.Laws.Whole.{owners-whole, starts-whole, sizes_whole, access-whole}
use Rattle.faults.specs.Reading.{reading_in, reading_of, no_sizes, sizes_in, text_sizes}
use Rattle.faults.specs.Stop.{stop_of}
use Rattle.faults.specs.Whole.{is_whole}
use Rattle.lines.specs.declared.asked.Asked.{Asked}
use Rattle.lines.specs.declared.rows.Sizes.{Sizes}
use Rattle.lines.specs.Asked.{asked_of}
use Rattle.lines.specs.Fields.{fields_of}
use Rattle.lines.specs.Laws.Rows.{values_low}
use Rattle.lines.specs.Lines.{Line, lines_of, is_passed, numbered}
use Rattle.lines.specs.Rows.{is_row, values_of, sizes_of, has_fields, fields_in, owners_of}
use Rattle.lines.specs.Words.{words_of}
use Rattle.opening.specs.OpenOf.{OpenOutcome, open_by}
use Rattle.reader.specs.Range.{AllUnder}
use Rattle.reader.specs.Laws.Strict.{below_under}
use Rattle.fidelity.proofs.Laws.FirstBox.{follows_last}
use Rattle.recorder.specs.AccessOf.{is_write, access_number, accepted, refused, access_of}
use Rattle.recorder.specs.WholeRun.{AccessCall, Box, outcome, called, called_all}
use Rattle.tracker.specs.declared.State.{State}
use Rattle.tracker.proofs.Laws.After.{next-fields}
use Rattle.logs.specs.Laws.Room.{opening_facts}
use Rattle.script.specs.RecordOf.{begun, finished, starts_of, with_opening, open_sized, opening, with_owners, with_sizes, range_of, with_first, with_lines, record_of}
use Rattle.logs.specs.Session.{Session, names_field, call_of, stopped_at, asking, judged, fed, fed_all}
use Rattle.programs.specs.Wrong.{Wrong}
use Rattle.programs.specs.Laws.Sized.{opened_in, sized_open}

-- the lines have increasing numbers, at least lo and below hi
Between : ℕ → ℕ → List Line → Type 0
Between lo hi [] = Unit {0}
Between lo hi (l ∷ ls) = (lo ≤ l.number) × (l.number < hi) × Between (l.number + 1) hi ls

between_more : (lo lo' hi : ℕ) (ls : List Line) → lo' ≤ lo → Between lo hi ls → Between lo' hi ls
unfolding Between
between_more lo lo' hi [] h b = tt
between_more lo lo' hi (l ∷ ls) h b = (omega (arith, b.0), b.1, b.2)

numbered_between : (n hi : ℕ) (ls : List (List ℕ)) → n + length ls ≤ hi → Between n hi (numbered n ls)
unfolding Between numbered
numbered_between n hi [] h = tt
numbered_between n hi (l ∷ ls) h = elim (split (is_passed l)) [
  | passes p ↦ rw p (between_more (n + 1) n hi (numbered (n + 1) ls) (omega arith) (numbered_between (n + 1) hi ls (omega arith)))
  | fails p ↦ rw p (omega arith, omega arith, numbered_between (n + 1) hi ls (omega arith))
]

-- if a line stopped the text with number 0, its number is at least lo, and it is wrong as these lines are read
abbrev Told : Sizes → ℕ → Kind → List Line → ℕ → ℕ → Type 0
Told z lo k ls line number = (line ≡ 0 → ⊥) → number ≡ 0 → (lo ≤ line) × Wrong z (reading_in line k ls)

module _ (z : Sizes) (lo : ℕ) (k : Kind) where
  told-refused : (ls : List Line) (line number : ℕ) → (number ≡ 0 → ⊥) → Told z lo k ls line number
  told-refused ls line number h _ e = absurd (h e)

  told_here : (l : Line) (ls : List Line) (number : ℕ) → lo ≤ l.number → is_whole k (count_of k z) (stop_of (has_fields z) (first_of k) 0 (words_of l.bytes)) ≡ false
      → Told z lo k (l ∷ ls) l.number number
  told_here l ls number h p _ e = (h, rw (reading_here l.number k l ls refl) (λ t. p))

  told-on : (l : Line) (ls : List Line) (line number : ℕ) → lo ≤ l.number → Told z (l.number + 1) (kind_after k) ls line number → Told z lo k (l ∷ ls) line number
  told-on l ls line number h t y e = let x = t y e in (omega (arith, x.0), rw (reading_on line k l ls (λ q. omega (arith, x.0))) x.1)

absent : (lo hi : ℕ) (k : Kind) (ls : List Line) → Between lo hi ls → (reading_in hi k ls).there ≡ false
unfolding Between reading_in
absent lo hi k [] b = refl
absent lo hi k (l ∷ ls) b = rw (ne_eqb l.number hi (λ z. omega (arith, b.1))) (absent (l.number + 1) hi (kind_after k) ls b.2)

told_missing : (z : Sizes) (lo hi : ℕ) (k : Kind) (ls : List Line) (number : ℕ) → lo ≤ hi → Between lo hi ls → Told z lo k ls hi number
told_missing z lo hi k ls number h b _ e = (h, λ t. absurd (true≢false (sym t ∙ absent lo hi k ls b)))

-- the accesses
stays : (s : Session) (ls : List Line) → (s.line ≡ 0 → ⊥) → fed_all s ls ≡ s
unfolding fed_all fed
stays s [] h = refl
stays s (l ∷ ls) h = rw (ne_eqb s.line 0 h) (stays s ls h)

access-fields : (s : State) (task object field sort value : ℕ) (memory out : List ℕ) → (access_of s task object field sort value memory out).answer.state.fields ≡ s.fields
unfolding access_of accepted refused
access-fields s task object field sort value memory out = elim (split (eqb (access_number s task object field sort (length memory) (length out)) 0)) [
  | passes p ↦ rw p (next-fields s task (cell_of s.fields object field) (is_write sort))
  | fails p ↦ rw p
]

fields_stay : (b : Box) (c : AccessCall) → (called b c).state.fields ≡ b.state.fields
unfolding called outcome
fields_stay b c = access-fields b.state c.task c.object c.field c.sort c.value b.memory c.out

module _ (s : Session) (l : Line) (h : s.line ≡ 0) where
  abbrev asked : Option Asked
  asked = asked_of (names_field s.box.state) (fields_of l.bytes)

  fed_bad : asked ≡ None → fed s l ≡ stopped_at s l.number 0
  unfolding fed judged
  fed_bad p = rw (eq-eqb s.line 0 h, p)

  module _ (a : Asked) (p : asked ≡ Some a) where
    call : AccessCall
    call = call_of s.total a

    -- a line whose access is accepted, and lines after it name a field as before
    fed-taken : (outcome s.box call).answer.number ≡ 0 → ((fed s l).line ≡ 0) × (names_field (fed s l).box.state ≡ names_field s.box.state)
    unfolding fed judged asking call
    fed-taken q = rw (eq-eqb s.line 0 h, p, q) (refl, ap (ltb 0) (fields_stay s.box call))

    fed-refused : ((outcome s.box call).answer.number ≡ 0 → ⊥) → fed s l ≡ stopped_at s l.number (outcome s.box call).answer.number
    unfolding fed judged asking call
    fed-refused q = rw (eq-eqb s.line 0 h, p, ne_eqb _ 0 q)

told_same : (z : Sizes) (lo : ℕ) (k : Kind) (ls : List Line) (s t : Session) → s ≡ t → Told z lo k ls t.line t.number → Told z lo k ls s.line s.number
told_same z lo k ls s t e x = rw e x

-- what a line asks for, with the equation for it
data Seen (o : Option Asked) : Type 0 where
  nothing : o ≡ None → Seen o
  access : (a : Asked) → o ≡ Some a → Seen o

seen : (o : Option Asked) → Seen o
seen None = nothing refl
seen (Some a) = access a refl

accesses-told : (z : Sizes) (lo hi : ℕ) (s : Session) (ls : List Line) → names_field s.box.state ≡ has_fields z → s.line ≡ 0 → 1 ≤ lo → Between lo hi ls
    → Told z lo Access ls (fed_all s ls).line (fed_all s ls).number
unfolding Between fed_all stopped_at
accesses-told z lo hi s [] n h g b = λ y e. absurd (y h)
accesses-told z lo hi s (l ∷ ls) n h g b =
    let stopped : (k : ℕ) → fed s l ≡ stopped_at s l.number k → fed_all (fed s l) ls ≡ stopped_at s l.number k = λ k e. rw e (stays (stopped_at s l.number k) ls (λ z. omega (arith, b.0))) in
    elim (seen (asked s l h)) [
      | nothing p ↦ told_same z lo Access (l ∷ ls) _ _ (stopped 0 (fed_bad s l h p)) (told_here z lo Access l ls 0 b.0 (sym (access-whole (has_fields z) 0 l.bytes) ∙ ap is_some (rw n at p)))
      | access a p ↦ let number = (outcome s.box (call s l h a p)).answer.number in elim (split (eqb number 0)) [
        | passes q ↦
            let t = fed-taken s l h a p (eqb-true _ _ q) in
            told-on z lo Access l ls _ _ b.0 (accesses-told z (l.number + 1) hi (fed s l) ls (t.1 ∙ n) t.0 (omega arith) b.2)
        | fails q ↦ told_same z lo Access (l ∷ ls) _ _ (stopped number (fed-refused s l h a p (eqb-false _ _ q))) (told-refused z lo Access (l ∷ ls) l.number number (eqb-false _ _ q))
      ]
    ]

opening-told : (z : Sizes) (lo hi line : ℕ) (o : OpenOutcome) (ls : List Line) → (o.answer.number ≡ 0 → names_field o.answer.state ≡ has_fields z) → 1 ≤ lo
    → Between lo hi ls → Told z lo Access ls (with_opening z.tasks line o ls).line (with_opening z.tasks line o ls).number
unfolding with_opening finished
opening-told z lo hi line o ls n g b =
    let s = begun o.answer.state o.memory o.answer.written z.tasks in
    elim (split (eqb o.answer.number 0)) [
      | fails p ↦ rw p (told-refused z lo Access ls line o.answer.number (eqb-false _ _ p))
      | passes p ↦ elim (split (eqb (fed_all s ls).line 0)) [
        | passes q ↦ rw (p, q) (λ y e. absurd (y refl))
        | fails q ↦ rw (p, q) (accesses-told z lo hi s ls (n (eqb-true _ _ p)) refl g b)
      ]
    ]

-- the state of an accepted opening has fields exactly if the first line has F
opening_names : (z : Sizes) (owners starts : List ℕ) → AllUnder 4294967296 starts
    → (opening z owners starts).answer.number ≡ 0 → names_field (opening z owners starts).answer.state ≡ has_fields z
unfolding called_all
opening_names z owners starts under h =
    let o = opened_in z owners starts under in
    let s = sized_open z owners starts under h in
    let a = ap (λ (x : OpenOutcome). x.answer.number) s.0 ∙ h in
    ap (λ (x : OpenOutcome). names_field x.answer.state) (sym s.0) ∙ ap (ltb 0) (follows_last o a []).fields_are ∙ s.1

-- the first three lines
module _ (z : Sizes) (hi : ℕ) where
  starts-told : (lo line : ℕ) (owners : List ℕ) (ls : List Line) → 1 ≤ lo → lo ≤ hi → Between lo hi ls
      → Told z lo Starts ls (with_owners hi z line owners ls).line (with_owners hi z line owners ls).number
  unfolding with_owners Between
  starts-told lo line owners [] g k b = told_missing z lo hi Starts [] 0 k b
  starts-told lo line owners (l ∷ ls) g k b =
      let f = fields_of l.bytes in
      elim (split (is_row (starts_of z) f)) [
        | fails p ↦ rw p (told_here z lo Starts l ls 0 b.0 (sym (starts-whole (has_fields z) (starts_of z) l.bytes) ∙ p))
        | passes p ↦ rw p (told-on z lo Starts l ls _ _ b.0
            (opening-told z (l.number + 1) hi line (opening z owners (values_of f)) ls (opening_names z owners (values_of f) (below_under _ _ (values_low l.bytes))) (omega arith) b.2))
      ]

  owners-told : (lo : ℕ) (ls : List Line) → 1 ≤ lo → lo ≤ hi → Between lo hi ls → Told z lo Owners ls (with_sizes hi z ls).line (with_sizes hi z ls).number
  unfolding with_sizes Between
  owners-told lo [] g k b = told_missing z lo hi Owners [] 0 k b
  owners-told lo (l ∷ ls) g k b = elim (split (is_row z.objects (fields_of l.bytes))) [
    | fails p ↦ rw p (told_here z lo Owners l ls 0 b.0 (sym (owners-whole (has_fields z) z.objects l.bytes) ∙ p))
    | passes p ↦ rw p (told-on z lo Owners l ls _ _ b.0 (starts-told (l.number + 1) l.number (owners_of (fields_of l.bytes)) ls (omega arith) (omega (arith, b.1)) b.2))
  ]

-- an opening without lists is refused
none_owned : (least fields : ℕ) (z : Sizes) → (open_by least fields z.tasks z.objects [] [] [] []).answer.number ≡ 0 → ⊥
none_owned least fields z h =
    let f = (opening_facts least fields z.tasks z.objects [] [] [] [] h).0 in
    let e : 0 ≡ z.objects = f.owner_each in
    omega (arith, f.some_objects, e)

range-some : (z : Sizes) → range_of z ≡ 0 → ⊥
unfolding open_sized
range-some z h = elim (split (has_fields z)) [ passes p ↦ none_owned 1 (fields_in z) z (rw (p, range_of) at h) | fails p ↦ none_owned 0 0 z (rw (p, range_of) at h) ]

-- by whether the first line is well formed, and whether T, N and F are in range
first-told : (first : Option Sizes) (hi : ℕ) (l : Line) (ls : List Line) → Between 1 hi (l ∷ ls)
    → is_some first ≡ is_whole SizesLine 0 (stop_of (has_fields (unwrap_or first no_sizes)) (first_of SizesLine) 0 (words_of l.bytes))
    → Told (unwrap_or first no_sizes) 1 SizesLine (l ∷ ls) (with_first hi l.number first ls).line (with_first hi l.number first ls).number
unfolding with_first Between
first-told None hi l ls b w = told_here no_sizes 1 SizesLine l ls 0 b.0 (sym w)
first-told (Some z) hi l ls b w = elim (split (eqb (range_of z) 3)) [
  | fails p ↦ rw p (told-refused z 1 SizesLine (l ∷ ls) l.number (range_of z) (range-some z))
  | passes p ↦ rw p (told-on z 1 SizesLine l ls _ _ b.0 (owners-told z hi (l.number + 1) ls (omega arith) (omega (arith, b.1)) b.2))
]

lines-told : (hi : ℕ) (ls : List Line) → 1 ≤ hi → Between 1 hi ls → Told (sizes_in ls) 1 SizesLine ls (with_lines hi ls).line (with_lines hi ls).number
unfolding with_lines sizes_in
lines-told hi [] k b = told_missing no_sizes 1 hi SizesLine [] 0 k b
lines-told hi (l ∷ ls) k b =
    let first = sizes_of (fields_of l.bytes) in
    first-told first hi l ls b (sizes_whole (has_fields (unwrap_or first no_sizes)) 0 l.bytes)

pub wrong_told : (text : List ℕ) → ((record_of text).line ≡ 0 → ⊥) → (record_of text).number ≡ 0 → Wrong (text_sizes text) (reading_of text (record_of text).line)
wrong_told text z e =
    let hi = 1 + length (lines_of text) in
    (lines-told hi (numbered 1 (lines_of text)) (omega arith) (numbered_between 1 hi (lines_of text) (omega arith)) z e).1
