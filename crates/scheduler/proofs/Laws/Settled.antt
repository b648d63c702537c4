-- The run after the order of "lowest ready task first": one step at a time, what every step keeps holds at the end, and no task is ready
-- there.
use Rattle.std.specs.Prelude.{◌≡◌, true, List, [], ◌∷◌, ◌++◌, ℕ, zero, suc, ◌≤◌, length}
use Rattle.std.proofs.Common.{append_assoc, append-nil, arith, ltb-true}
use Rattle.codec.specs.declared.Op.{Op}
use Rattle.entries.specs.Recording.{Entry}
use Rattle.pending.specs.declared.Run.{Run}
use Rattle.pending.specs.Laws.Moved.{Shaped}
use Rattle.pending.proofs.Laws.Moved.{moved_shaped}
use Rattle.pending.specs.Run.{moved_of}
use Rattle.pending.specs.Sound.{sound_of}
use Rattle.replayer.specs.Laws.Along.{Along}
use Rattle.replayer.proofs.Laws.Along.{along_moved}
use Rattle.replayer.specs.ReadyOf.{ready_of}
use Rattle.scheduler.specs.Finish.{left_over}
use Rattle.scheduler.specs.Schedule.{schedule_of, ran_by, settled_of}
use Rattle.scheduler.specs.Laws.Lowest.{IsNext, goes_on_lem, stops}
use Rattle.scheduler.proofs.Laws.Lowest.{standing, behind}
use Rattle.scheduler.proofs.Laws.Schedule.{schedule_stops, schedule_next, ran_one}

-- no task is ready: the order is empty
pub settled_stops : (b : List ℕ) (r : Run) → (ready_of r b).word ≡ 0 → (schedule_of b r ≡ []) × (settled_of b r ≡ r)
unfolding ran_by
settled_stops b r z = let e = schedule_stops (left_over r) b r z in (e, rw e)

module _ (b : List ℕ) where
  -- the next task is stepped
  module _ (r : Run) (s : sound_of r (length b) ≡ true) (h : Shaped r) (t : ℕ) (op : Op) (next : ℕ) (w : IsNext r b t op next) where
    pub settled_next : settled_of b r ≡ settled_of b (moved_of r t next)
    settled_next = rw (schedule_next b r s h t op next w) (ran_one b r t op next (schedule_of b (moved_of r t next)) w.opens)

  -- what each step keeps, about the run and the steps taken so far
  module _ (P : Run → List ℕ → Type 0)
      (kept : (r : Run) (before : List ℕ) (t : ℕ) (op : Op) (next : ℕ) → P r before → IsNext r b t op next → P (moved_of r t next) (before ++ (t ∷ []))) where
    walk : (n : ℕ) (r : Run) (before : List ℕ) → sound_of r (length b) ≡ true → Shaped r → left_over r ≤ n → P r before
        → P (settled_of b r) (before ++ schedule_of b r) × ((ready_of (settled_of b r) b).word ≡ 0)
    walk zero r before s h l p = elim (standing r b s) [
      | stops z ↦ let e = settled_stops b r z in rw (e.1, e.0, append-nil before) (p, z)
      | goes_on_lem t op next w ↦ absurd (omega (arith, (behind r b t op next s h w).fewer))
    ]
    walk (suc n) r before s h l p = elim (standing r b s) [
      | stops z ↦ let e = settled_stops b r z in rw (e.1, e.0, append-nil before) (p, z)
      | goes_on_lem t op next w ↦
          let k = behind r b t op next s h w in
          rw (settled_next r s h t op next w, schedule_next b r s h t op next w, ← append_assoc before (t ∷ []) (schedule_of b (moved_of r t next)))
          (walk n (moved_of r t next) (before ++ (t ∷ [])) k.sound (moved_shaped r t next h) (omega (arith, k.fewer)) (kept r before t op next p w))
    ]

    pub settled_keeps : (r : Run) → sound_of r (length b) ≡ true → Shaped r → P r [] → P (settled_of b r) (schedule_of b r)
    settled_keeps r s h p = (walk (left_over r) r [] s h (omega arith) p).0

  pub settled_ends : (r : Run) → sound_of r (length b) ≡ true → Shaped r → (ready_of (settled_of b r) b).word ≡ 0
  settled_ends r s h = (walk (λ q before. Unit {0}) (λ q before t op next p w. tt) (left_over r) r [] s h (omega arith) tt).1

  pub settled_along : (bodies : List (List Entry)) (r : Run) → Along b bodies r → Along b bodies (settled_of b r)
  settled_along bodies r w =
      settled_keeps (λ q before. Along b bodies q) (λ q before t op next p n. along_moved b bodies q p t n.below (ltb-true _ _ n.left) op next n.opens) r w.sound w.shaped w
