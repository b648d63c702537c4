-- The accesses that can ever be done do not depend on the order: an allowed order after which no task is ready has done, of each task, as
-- many accesses as any allowed order can.
use Rattle.std.specs.Prelude.{◌≡◌, refl, List, [], ◌∷◌, ◌++◌, ℕ, zero, suc, ◌+◌, ◌≤◌, ◌<◌, length, get_or, take}
use Rattle.std.proofs.Common.{le_antisymm, arith, eq-eqb, ne_eqb, take-suc}
use Rattle.std.proofs.Math.Decide.{dec_lt, ℕ_discrete}
use Rattle.std.proofs.Math.Seq.{take-length}
use Rattle.entries.specs.Bytes.{entry_length}
use Rattle.entries.specs.Recording.{Entry, no_entry}
use Rattle.history.proofs.Laws.Closed.{met_mono}
use Rattle.playability.specs.Order.{times, body_of, size_of, Ready, Allowed}

-- one step more
pub times-own : (t : ℕ) (before : List ℕ) → times t (before ++ (t ∷ [])) ≡ suc (times t before)
unfolding times
times-own t [] = rw (eq-eqb t t refl)
times-own t (u ∷ us) = rw (times-own t us) (omega arith)

pub times-other : (t u : ℕ) (before : List ℕ) → (u ≡ t → ⊥) → times t (before ++ (u ∷ [])) ≡ times t before
unfolding times
times-other t u [] h = rw (ne_eqb u t h)
times-other t u (v ∷ us) h = rw (times-other t u us h)

pub times_none : (t : ℕ) → times t [] ≡ 0
unfolding times
times_none t = refl

-- one access more
pub size-more : (es : List Entry) (n : ℕ) → n < length es → size_of (take (suc n) es) ≡ size_of (take n es) + entry_length (get_or es n no_entry)
unfolding size_of
size-more [] n h = absurd (omega arith)
size-more (e ∷ es) zero h = omega arith
size-more (e ∷ es) (suc n) h = omega (arith, size-more es n (omega arith))

module _ (bodies : List (List Entry)) where
  -- no task is ready after the steps
  abbrev pub Stops : List ℕ → Type 0
  Stops order = (t : ℕ) → Ready bodies order t → ⊥

  -- a task that is ready stays ready while others go on
  ready_later : (before after : List ℕ) (t : ℕ) → ((s : ℕ) → times s before ≤ times s after) → times t before ≡ times t after → Ready bodies before t → Ready bodies after t
  ready_later before after t le e r = record {
    left = rw (← e) r.left;
    met = rw (← e) (met_mono (λ s. times s before) (λ s. times s after) le (get_or (body_of bodies t) (times t before) no_entry).orderings r.met);
  }

  module _ (last : List ℕ) (stops : Stops last) (order : List ℕ) (a : Allowed bodies order) where
    -- one more step of an allowed order
    step-most : (n : ℕ) → n < length order → ((t : ℕ) → times t (take n order) ≤ times t last) → (t : ℕ) → times t (take (suc n) order) ≤ times t last
    step-most n h le t = rw (take-suc order n 0 h) (elim (ℕ_discrete (get_or order n 0) t) [
      | no d ↦ rw (times-other t (get_or order n 0) (take n order) d) (le t)
      | yes d ↦ elim (dec_lt (times t (take n order)) (times t last)) [
        | yes k ↦ rw (d, times-own t (take n order)) (omega arith)
        | no k ↦
            let r : Ready bodies (take n order) t = rw (← d) (a n h) in
            absurd (stops t (ready_later (take n order) last t le (omega (arith, k, le t)) r))
      ]
    ])

    upto : (n : ℕ) → n ≤ length order → (t : ℕ) → times t (take n order) ≤ times t last
    upto zero h t = rw (times_none t) (omega arith)
    upto (suc n) h t = step-most n (omega arith) (upto n (omega arith)) t

    pub most-done : (t : ℕ) → times t order ≤ times t last
    most-done t = rw (take-length order) at (upto (length order) (omega arith) t)

  -- the same set, whichever allowed order leads to a stop
  pub same-done : (first last : List ℕ) → Allowed bodies first → Stops first → Allowed bodies last → Stops last → (t : ℕ) → times t first ≡ times t last
  same-done first last a s b z t = le_antisymm (most-done last z first a t) (most-done first s last b t)

  -- no task does more accesses than it has
  pub never_more : (order : List ℕ) → Allowed bodies order → (t : ℕ) → times t order ≤ length (body_of bodies t)
  never_more order a t = rw (take-length order) at (go (length order) (omega arith))
    where
      go : (n : ℕ) → n ≤ length order → times t (take n order) ≤ length (body_of bodies t)
      go zero h = rw (times_none t) (omega arith)
      go (suc n) h = rw (take-suc order n 0 (omega arith)) (elim (ℕ_discrete (get_or order n 0) t) [
        | no d ↦ rw (times-other t (get_or order n 0) (take n order) d) (go n (omega arith))
        | yes d ↦ rw (d, times-own t (take n order)) (let r : Ready bodies (take n order) t = rw (← d) (a n (omega arith)) in r.left)
      ])
