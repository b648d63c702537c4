-- The lowest task that has accesses left: one pass of the search, and what it finds.
use Rattle.std.specs.Prelude.{Option, Some, None, ◌≡◌, true, false, List}
use Rattle.std.proofs.Math.Path.{refl}
use Rattle.std.proofs.Common.{ap, add-one, lt-ltb, le-ltb}
use Prim.Native.Nat.{ℕ, zero, suc, ◌+◌, ◌-◌, ◌≤◌, ◌<◌}
use Rattle.std.proofs.Math.Nat.{add-zero}
use native.Mathlib.Omega.{arith}
use Rattle.codec.specs.Laws.Decide.{passes, fails, split, never}
use Rattle.entries.specs.declared.Limits.{Limits}
use Rattle.pending.specs.declared.Run.{Run}
use Rattle.pending.specs.declared.TaskRun.{TaskRun}
use Rattle.pending.specs.FirstUnmet.{unmet_at, Holds}
use Rattle.pending.specs.Laws.Look.{OneTask}
use Rattle.pending.proofs.Laws.Look.{look_unmet}
use Rattle.pending.specs.Unmet.{unmet_next}
use Rattle.replayer.specs.ReadyOf.{has_left}
use Rattle.playability.specs.declared.hold.Held.{Held}
use Rattle.playability.specs.Hold.{offset_in, hold_from, hold_of}
use Rattle.playability.specs.Laws.Held.{HoldIs, free, held}

-- the offset as the code finds it
module _ (r : Run) (b : List ℕ) (t : ℕ) (x : TaskRun) (m : Limits) (dones : List ℕ) (w : OneTask r t x m dones) (scan at : ℕ) (k : Holds m b dones x.place x.end (unmet_at b scan at)) where
  pub offset-held : scan < at → scan ≡ offset_in (unmet_next r b t)
  unfolding unmet_at
  offset-held h = rw (lt-ltb scan at h) at (ap offset_in (look_unmet r b t x m dones w _ k))

  pub offset-none : at ≤ scan → 0 ≡ offset_in (unmet_next r b t)
  unfolding unmet_at
  offset-none h = rw (le-ltb scan at h) at (ap offset_in (look_unmet r b t x m dones w _ k))

-- one pass of the search among n tasks
module _ (b : List ℕ) (r : Run) (n i : ℕ) where
  pub hold_on : i < n → has_left r i ≡ false → hold_from b r i (n - i) ≡ hold_from b r (i + 1) (n - (i + 1))
  unfolding hold_from
  hold_on h q = let e : n - i ≡ suc (n - (i + 1)) = omega arith in rw (e, q, add-one)

  pub hold_found : i < n → has_left r i ≡ true → hold_from b r i (n - i) ≡ Some (record { task = i; offset = offset_in (unmet_next r b i) })
  unfolding hold_from
  hold_found h q = let e : n - i ≡ suc (n - (i + 1)) = omega arith in rw (e, q)

  pub hold_end : n ≤ i → hold_from b r i (n - i) ≡ None
  unfolding hold_from
  hold_end h = let e : n - i ≡ 0 = omega arith in rw e

module _ (b : List ℕ) (r : Run) where
  -- one more task in front
  before : (i n : ℕ) → has_left r i ≡ false → ((u : ℕ) → u < n → has_left r (suc i + u) ≡ false) → (u : ℕ) → u < suc n → has_left r (i + u) ≡ false
  before i n q g zero h = rw add-zero q
  before i n q g (suc u) h = let e : i + suc u ≡ suc i + u = omega arith in rw e (g u (omega arith))

  more : (i n : ℕ) (k : Option Held) → has_left r i ≡ false → HoldIs b r (suc i) n k → HoldIs b r i (suc n) k
  more i n k q (held t h l g f) =
      let e : i + suc t ≡ suc i + t = omega arith in
      held (suc t) (omega arith) (rw e l) (before i t q g) (rw e f)
  more i n k q (free g f) = free (before i n q g) f

  hold_from_lem : (i n : ℕ) → HoldIs b r i n (hold_from b r i n)
  unfolding hold_from
  hold_from_lem i zero = free (λ u h. absurd (omega arith)) refl
  hold_from_lem i (suc n) = elim (split (has_left r i)) [
    | passes q ↦ rw q (held 0 (omega arith) (rw add-zero q) (λ u h. absurd (omega arith)) (rw add-zero))
    | fails q ↦ rw q (more i n (hold_from b r (suc i) n) q (hold_from_lem (suc i) n))
  ]

  pub hold_is : HoldIs b r 0 r.tasks (hold_of b r)
  hold_is = hold_from_lem 0 r.tasks

  -- no task has accesses left
  pub hold_free : ((t : ℕ) → t < r.tasks → has_left r t ≡ false) → hold_of b r ≡ None
  hold_free g = elim hold_is [
    | held t h l k f ↦ absurd (let e : 0 + t ≡ t = omega arith in never (has_left r t) (rw e at l) (g t h))
    | free k f ↦ f
  ]
