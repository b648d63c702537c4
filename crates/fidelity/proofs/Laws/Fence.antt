-- Laws of `Fence`: a fence lasts, whatever the calls before it and after it.
use Rattle.std.specs.Prelude.{Bool, true, false, not, ◌≡◌, refl, ℕ, ◌<◌}
use mathlib.Core.List.{List, [], ◌∷◌}
use Rattle.std.proofs.Common.{sym, ◌∙◌, arith, eqb-true, eq-eqb}
use Rattle.std.proofs.lemmas.Bool.{eqb-false}
use Rattle.codec.specs.Laws.Decide.{never, both_pass}
use Rattle.tracker.specs.State.{locality_of, cell_count}
use Rattle.tracker.specs.Row.{row_at, number_of}
use Rattle.tracker.specs.Laws.State.{Shaped}
use Rattle.tracker.proofs.Laws.After.{next_shaped, next-fields}
use Rattle.tracker.specs.Laws.Seen.{Sees, newest_six}
use Rattle.tracker.proofs.Laws.Seen.{sees_three, sees_stays, newest_sees, fence_leaves}
use Rattle.tracker.proofs.Laws.Tracks.{tracks_invariant}
use Rattle.tracker.specs.declared.Locality.{Locality}
use Rattle.tracker.specs.declared.Locality.TheVariants.{WriteExclusive, ReadExclusive, ReadShared}
use Rattle.tracker.specs.declared.Row.{Row}
use Rattle.tracker.specs.declared.Row.TheVariants.{One, Two, Three, Four, Five, Six, Seven, Eight, Nine, Ten}
use Rattle.recorder.specs.AccessOf.{is_write, accepted, refused, cell_at}
use Rattle.recorder.proofs.Laws.Accepted.{takes-accepted, number-refused, number-takes}
use Rattle.recorder.specs.WholeRun.{AccessCall, Call, Box, outcome, called, called_all}
use Rattle.fidelity.specs.Box.{Opening, opened_by, Asked, last_box, accepts, cell_by}
use Rattle.fidelity.specs.Fence.{writes_to, unwritten, is_shared, read_by, FenceLasts}
use Rattle.fidelity.proofs.Laws.FirstBox.{follows_last}
use Rattle.fidelity.specs.Laws.OneCall.{taken_turn, turned_away}
use Rattle.fidelity.proofs.Laws.OneCall.{turn}
use Rattle.codec.specs.Laws.Cell.{cell_below}

-- an accepted access answers its row, a refused one 0
module _ (b : Box) (c : AccessCall) where
  row-taken : accepts b c ≡ true → (outcome b c).answer.row ≡ number_of (row_at b.state c.task (cell_by b c) (is_write c.sort))
  unfolding outcome accepted
  row-taken a = rw (takes-accepted b.state c.task c.object c.field c.sort c.value b.memory c.out
      (number-takes b.state c.task c.object c.field c.sort c.value b.memory c.out (eqb-true _ _ a)))

  row-refused : accepts b c ≡ false → (outcome b c).answer.row ≡ 0
  unfolding outcome refused
  row-refused a = rw (number-refused b.state c.task c.object c.field c.sort c.value b.memory c.out (eqb-false _ _ a))

-- only row 6 has the number 6
number_six : (row : Row) → number_of row ≡ 6 → row ≡ Six
number_six One h = absurd (omega arith)
number_six Two h = absurd (omega arith)
number_six Three h = absurd (omega arith)
number_six Four h = absurd (omega arith)
number_six Five h = absurd (omega arith)
number_six Six h = refl
number_six Seven h = absurd (omega arith)
number_six Eight h = absurd (omega arith)
number_six Nine h = absurd (omega arith)
number_six Ten h = absurd (omega arith)

-- a shared cell has a share
share_is : (l : Locality) → is_shared l ≡ true → (share : ℕ) × (l ≡ ReadShared share)
share_is (WriteExclusive task) p = absurd (never false p refl)
share_is (ReadExclusive task) p = absurd (never false p refl)
share_is (ReadShared share) p = (share, refl)

module _ (task cell fields : ℕ) where
  -- the cell is in a share that the task has seen, and the state has its number of fields
  record Stands (b : Box) : Type 0 where
    pub shaped : Shaped b.state
    pub same : b.state.fields ≡ fields
    pub sees : Sees b.state task cell

  -- a call that does not write the cell leaves its share seen
  stands-call : (b : Box) (c : AccessCall) → Stands b → writes_to cell b (Call.access c) ≡ false → Stands (called b c)
  stands-call b c k n = elim (turn b c) [
    | taken_turn t a x e s ↦ rw s (record {
      shaped = next_shaped b.state c.task (cell_by b c) (is_write c.sort) k.shaped;
      same = next-fields b.state c.task (cell_by b c) (is_write c.sort) ∙ k.same;
      sees = sees_stays b.state c.task (cell_by b c) (is_write c.sort) k.shaped t.facts.sound t.facts.accepts task cell
          (λ w o. never (writes_to cell b (Call.access c)) (rw (a, w) (eq-eqb (cell_by b c) cell (sym o))) n) k.sees;
    })
    | turned_away a x s ↦ rw s k
  ]

  not_written : (t : Bool) → not t ≡ true → t ≡ false
  not_written true p = sym p
  not_written false p = refl

  stands-all : (b : Box) (calls : List Call) → Stands b → unwritten cell b calls ≡ true → Stands (called_all b calls)
  unfolding called_all unwritten
  stands-all b [] k u = k
  stands-all b (Call.access c ∷ calls) k u =
      let p = both_pass (not (writes_to cell b (Call.access c))) (unwritten cell (called b c) calls) u in
      stands-all (called b c) calls (stands-call b c k (not_written _ p.0)) p.1

-- the fence leaves every shared cell's share seen
stands-fence : (b : Box) (fence : AccessCall) (cell : ℕ) → Shaped b.state → (outcome b fence).answer.row ≡ 6 → cell < cell_count b.state
    → is_shared (locality_of b.state cell) ≡ true → Stands fence.task cell b.state.fields (called b fence)
stands-fence b c cell shaped six low shared = elim (turn b c) [
  | taken_turn t a x e s ↦
      let row = number_six _ (sym (row-taken b c a) ∙ six) in
      let share = share_is (locality_of b.state cell) shared in
      rw s (record {
        shaped = next_shaped b.state c.task (cell_by b c) (is_write c.sort) shaped;
        same = next-fields b.state c.task (cell_by b c) (is_write c.sort);
        sees = newest_sees b.state c.task (cell_by b c) (is_write c.sort) shaped t.facts.sound t.facts.accepts
            (rw row newest_six) cell share.0 low
            (fence_leaves b.state c.task (cell_by b c) (is_write c.sort) shaped t.facts.sound t.facts.accepts row cell ∙ share.1);
      })
  | turned_away a x s ↦ absurd (let z : ◌≡◌ {A = ℕ} 0 6 = sym (row-refused b c a) ∙ six in omega arith)
]

-- from any state of the right shape, and so after any calls from an accepted opening
pub fence_lasts : (b : Box) → Shaped b.state → FenceLasts b
fence_lasts b shaped fence object field calls value out six low inside shared u a =
    let cell = cell_at b.state object field in
    let below = cell_below b.state.fields b.state.objects object field low inside in
    let k = stands-all fence.task cell b.state.fields (called b fence) calls (stands-fence b fence cell shaped six below shared) u in
    row-taken (called_all (called b fence) calls) (read_by fence.task object field value out) a
    ∙ rw (k.same, sees_three (called_all (called b fence) calls).state fence.task cell k.sees)

pub box-fence_lasts : (o : Opening) → (opened_by o).answer.number ≡ 0 → (asked : List Asked) → FenceLasts (last_box o asked)
box-fence_lasts o accepted asked = fence_lasts (last_box o asked) (tracks_invariant (follows_last o accepted asked).tracks).shaped
