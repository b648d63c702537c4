-- With one field per object the same calls get what they got under the old opening: two states that differ in the number of fields alone, 0
-- and 1, and boxes that have them stay beside each other.
use Rattle.std.specs.Prelude.{Bool, cond, List, [], ◌∷◌, ◌++◌, ◌≡◌, ℕ, zero, suc, ◌≤◌, ◌<◌, eqb, length}
use Rattle.std.proofs.Math.Path.{refl, sym}
use Rattle.std.proofs.Common.{ap, ap₂, ◌∙◌, arith, eq-eqb, ne_eqb}
use Rattle.std.proofs.Math.Decide.{ℕ_discrete, dec_le}
use Rattle.codec.specs.Cell.{width_of, cells_of, cell_of, object_at}
use Rattle.codec.specs.Number.{no_room}
use Rattle.history.specs.Entry.{Entry}
use Rattle.history.specs.History.{History}
use Rattle.tracker.specs.declared.Locality.{Locality}
use Rattle.tracker.specs.declared.Row.{Row}
use Rattle.tracker.specs.declared.Row.TheVariants.{One, Two, Three, Four, Five, Six, Seven, Eight, Nine, Ten}
use Rattle.tracker.specs.declared.State.{State}
use Rattle.tracker.specs.Next.{locality_after, effect_of, stepped, state_after}
use Rattle.tracker.specs.Opened.{opened_state, owned_cells}
use Rattle.tracker.specs.Orderings.{orderings_of, written, written_of}
use Rattle.tracker.specs.Row.{row_at}
use Rattle.tracker.specs.Sound.{sound_of}
use Rattle.tracker.specs.State.{locality_of}
use Rattle.recorder.specs.AccessOf.{is_write, checked, accepted, refused, access_of, AccessOutcome, written_size}
use Rattle.recorder.proofs.Laws.AccessCode.{access_off, access-on, access-short}
use Rattle.recorder.specs.WholeRun.{AccessCall, Call, Box, outcome, called, left_by, called_all}
use Rattle.fidelity.specs.Box.{Opening, opened_by, Asked, calls_of, first_box, last_box, accepts, recorded_entry, added_by, recorded_from, recorded}
use Rattle.fidelity.specs.OneField.{OneField, SameAccess, SameCall, SameCalls, HasRoom, Enough, Told, told_by, told_from, SameRun}
use Rattle.fidelity.proofs.Laws.FirstBox.{opening-is}
use Rattle.opening.specs.OpenOf.{OpenOutcome}
use Rattle.fidelity.specs.Laws.OneField.{Beside, Goes, Pair, stays, takes, under}

-- the table does not look at it
module _ (f : ℕ) (t : State) (task cell : ℕ) where
  stepped_under : (row : Row) (l : Locality)
      → stepped (under f t) task cell (locality_after row (under f t) task l) (effect_of row (under f t) task l) ≡ under f (stepped t task cell (locality_after row t task l) (effect_of row t task l))
  unfolding locality_after effect_of
  stepped_under One l = refl
  stepped_under Two l = refl
  stepped_under Three l = refl
  stepped_under Four l = refl
  stepped_under Five l = refl
  stepped_under Six l = refl
  stepped_under Seven l = refl
  stepped_under Eight l = refl
  stepped_under Nine l = refl
  stepped_under Ten l = refl

  after_under : (write : Bool) → state_after (under f t) task cell write ≡ under f (state_after t task cell write)
  unfolding state_after
  after_under write = stepped_under (row_at t task cell write) (locality_of t cell)

  orderings_under : (row : Row) (l : Locality) → orderings_of row (under f t) l ≡ orderings_of row t l
  unfolding orderings_of
  orderings_under One l = refl
  orderings_under Two l = refl
  orderings_under Three l = refl
  orderings_under Four l = refl
  orderings_under Five l = refl
  orderings_under Six l = refl
  orderings_under Seven l = refl
  orderings_under Eight l = refl
  orderings_under Nine l = refl
  orderings_under Ten l = refl

  written_under : (write : Bool) → written_of (under f t) task cell write ≡ written_of t task cell write
  written_under write = ap (written task) (orderings_under (row_at t task cell write) (locality_of t cell))

-- with 0 fields and with 1 an object is one cell, so the checks are the same
checked-same : (t : State) (task object field sort memory : ℕ) → checked (under 1 t) task object field sort memory 0 ≡ checked (under 0 t) task object field sort memory 0
unfolding checked sound_of cells_of width_of
checked-same t task object field sort memory = refl

goes : (s : State) (task object field sort value : ℕ) (memory out : List ℕ) → ((access_of s task object field sort value memory out).answer.number ≡ no_room → ⊥)
    → Goes s task object field sort value memory out
unfolding refused
goes s task object field sort value memory out room =
    let n = checked s task object field sort (length memory) 0 in
    elim (ℕ_discrete n 0) [
      | no z ↦ stays n refl z (access_off s task object field sort value memory out n refl z)
      | yes z ↦ elim (dec_le (written_size s task object field (is_write sort)) (length out)) [
        | yes h ↦ takes z (access-on s task object field sort value memory out n refl z h)
        | no h ↦ absurd (room (rw (access-short s task object field sort value memory out n refl z (omega arith))))
      ]
    ]

module _ (t : State) (task object field sort value : ℕ) (memory : List ℕ) where
  stays_both : (n : ℕ) (out other : List ℕ) → Pair (refused n (under 0 t) memory out) (refused n (under 1 t) memory other)
  unfolding refused
  stays_both n out other = record { number = refl; value = refl; row = refl; class = refl; base = t; old = refl; new = refl; memory = refl }

  takes_both : (write : Bool) (out other : List ℕ)
      → Pair (accepted (under 0 t) task object field write value memory out) (accepted (under 1 t) task object field write value memory other)
  unfolding accepted cell_of width_of
  takes_both write out other = record {
    number = refl;
    value = refl;
    row = refl;
    class = refl;
    base = state_after t task (cell_of 0 object field) write;
    old = after_under 0 t task (cell_of 0 object field) write;
    new = after_under 1 t task (cell_of 1 object field) write;
    memory = refl;
  }

  access_both : (out other : List ℕ) → ((access_of (under 0 t) task object field sort value memory out).answer.number ≡ no_room → ⊥)
      → ((access_of (under 1 t) task object field sort value memory other).answer.number ≡ no_room → ⊥)
      → Pair (access_of (under 0 t) task object field sort value memory out) (access_of (under 1 t) task object field sort value memory other)
  access_both out other p q =
      let same = checked-same t task object field sort (length memory) in
      elim (goes (under 0 t) task object field sort value memory out p) [
        | stays n e z w ↦ elim (goes (under 1 t) task object field sort value memory other q) [
          | stays k f y v ↦ let g : k ≡ n = f ∙ same ∙ sym e in rw (w, v, g) (stays_both n out other)
          | takes f v ↦ absurd (z (e ∙ sym same ∙ f))
        ]
        | takes e w ↦ elim (goes (under 1 t) task object field sort value memory other q) [
          | stays k f y v ↦ absurd (y (f ∙ same ∙ e))
          | takes f v ↦ rw (w, v) (takes_both (is_write sort) out other)
        ]
      ]

module _ (b c : Box) (w : Beside b c) (x y : AccessCall) (s : SameAccess x y) where
  -- the second call on the second box, by the first call's arguments
  other-is : outcome c y ≡ access_of (under 1 w.base) x.task x.object x.field x.sort x.value b.memory y.out
  unfolding outcome
  other-is = rw (w.new, s.task, s.object, s.field, s.sort, s.value, w.memory)

  first-is : outcome b x ≡ access_of (under 0 w.base) x.task x.object x.field x.sort x.value b.memory x.out
  unfolding outcome
  first-is = rw w.old

  pair : HasRoom b (Call.access x) → HasRoom c (Call.access y) → Pair (outcome b x) (outcome c y)
  pair p q = rw (first-is, other-is) (access_both w.base x.task x.object x.field x.sort x.value b.memory x.out y.out
      (λ e. p (rw first-is e)) (λ e. q (rw other-is e)))

  module _ (k : Pair (outcome b x) (outcome c y)) where
    told_same : told_by b (Call.access x) ≡ told_by c (Call.access y)
    told_same = λ i. record { number = k.number i; value = k.value i; row = k.row i; class = k.class i }

    orderings-same : written_of (under 0 w.base) x.task (cell_of 0 x.object x.field) (is_write x.sort)
        ≡ written_of (under 1 w.base) x.task (cell_of 1 x.object x.field) (is_write x.sort)
    unfolding cell_of width_of
    orderings-same =
        written_under 0 w.base x.task (cell_of 0 x.object x.field) (is_write x.sort)
        ∙ sym (written_under 1 w.base x.task (cell_of 1 x.object x.field) (is_write x.sort))

    entry-same : recorded_entry b x ≡ recorded_entry c y
    unfolding cell_of width_of
    entry-same = rw (k.value, w.old, w.new, s.task, s.object, s.field, s.sort, orderings-same)

    entries-same : (added_by b (Call.access x)).entries ≡ (added_by c (Call.access y)).entries
    entries-same = rw (k.number, entry-same)

    beside_next : Beside (called b x) (called c y)
    unfolding called
    beside_next = record { base = k.base; old = k.old; new = k.new; memory = k.memory }

-- any calls
calls_same : (b c : Box) → Beside b c → (g h : History) → g ≡ h → (calls others : List Call) → SameCalls calls others → Enough b calls → Enough c others
    → (told_from b calls ≡ told_from c others) × (recorded_from g b calls ≡ recorded_from h c others) × ((called_all b calls).memory ≡ (called_all c others).memory)
unfolding Enough told_from recorded_from called_all
calls_same b c w g h e [] [] s p q = (refl, e, sym w.memory)
calls_same b c w g h e [] (d ∷ others) s p q = absurd s
calls_same b c w g h e (x ∷ calls) [] s p q = absurd s
calls_same b c w g h e (Call.access x ∷ calls) (Call.access y ∷ others) s p q =
    let k = pair b c w x y s.0 p.0 q.0 in
    let r = calls_same (called b x) (called c y) (beside_next b c w x y s.0 k) _ _ (ap₂ (λ (u v : List Entry). u ++ v) (entries-same b c w x y s.0 k) e) calls others s.1 p.1 q.1 in
    (ap₂ (λ (u : Told) (v : List Told). u ∷ v) (told_same b c w x y s.0 k) r.0, r.1, r.2)

-- the two openings
cells_same : (owners : List ℕ) (n : ℕ) → owned_cells owners 1 n ≡ owned_cells owners 0 n
unfolding owned_cells object_at width_of
cells_same owners zero = refl
cells_same owners (suc n) = rw (cells_same owners n)

-- THE THEOREM
pub one_field : (old new : Opening) (asked others : List Asked) → OneField old new → (opened_by old).answer.number ≡ 0 → (opened_by new).answer.number ≡ 0
    → SameCalls (calls_of asked) (calls_of others) → Enough (first_box old) (calls_of asked) → Enough (first_box new) (calls_of others) → SameRun old new asked others
unfolding opened_state cells_of width_of
one_field old new asked others w a b s p q =
    let base = opened_state old.tasks old.objects 0 old.owners in
    let cells = cells_same old.owners (cells_of 0 old.objects) in
    let first : Beside (first_box old) (first_box new) = record {
      base = base;
      old = ap (λ (x : OpenOutcome). x.answer.state) (opening-is old a) ∙ rw w.no_fields;
      new = ap (λ (x : OpenOutcome). x.answer.state) (opening-is new b) ∙ rw (w.one_field, w.tasks, w.objects, w.owners, cells);
      memory = rw (opening-is old a, opening-is new b) w.starts;
    } in
    let r = calls_same (first_box old) (first_box new) first [] [] refl (calls_of asked) (calls_of others) s p q in
    record { answers = r.0; accesses = r.1; memory = r.2 }
