-- What the written orderings of an accepted access name; and row 10 names every other task, whether or not it read.
use Rattle.std.specs.Prelude.{Bool, ◌≡◌, ℕ, ◌≤◌, ◌<◌}
use mathlib.Core.List.Memᴰ
use mathlib.Core.List.{[], ◌∷◌, Memᴰ}
use Rattle.std.proofs.Math.Logic.{⊎_elim}
use Rattle.std.proofs.Common.{arith}
use Rattle.codec.specs.declared.Position.{Position}
use Rattle.tracker.specs.State.{done_of, done_at, took_at, cell_count, locality_of, holder_of}
use Rattle.tracker.specs.Row.{row_at}
use Rattle.tracker.specs.Orderings.{orderings_of, every_done, written_of}
use Rattle.tracker.proofs.Laws.Written.{written_in, written_keeps, every_in, every_has}
use Rattle.tracker.specs.Laws.Facts.{Sound}
use Rattle.tracker.specs.declared.Locality.{Locality}
use Rattle.tracker.specs.declared.Row.{Row}
use Rattle.tracker.specs.declared.Row.TheVariants.{One, Two, Three, Four, Five, Six, Seven, Eight, Nine, Ten}
use Rattle.tracker.specs.declared.State.{State}
use Rattle.tracker.specs.Laws.Named.{Names}

module _ (s : State) (sound : Sound s) (l : Locality) (holder_low : holder_of l < s.tasks) where
  -- the same for an ordering of the table, written or not
  pub record Points (p : Position) : Type 0 where
    pub task_low : 0 < p.number → p.task < s.tasks
    pub reached : p.number ≤ done_of s p.task

  last_points : Points s.last
  last_points = record { task_low = sound.last.task_low; reached = sound.last.reached }

  done_points : Points (done_at s (holder_of l))
  done_points = record { task_low = λ h. holder_low; reached = omega arith }

  took_points : Points (took_at s (holder_of l))
  took_points = record { task_low = λ h. holder_low; reached = (sound.task (holder_of l) holder_low).took_low }

  only : (p q : Position) → Points q → Memᴰ p (q ∷ []) → Points p
  only p q h m = rw (Memᴰ.eq_of_singleton m) h

  pub row_points : (row : Row) (p : Position) → Memᴰ p (orderings_of row s l) → Points p
  unfolding orderings_of
  row_points One p m = absurd (Memᴰ.not-nil m)
  row_points Two p m = absurd (Memᴰ.not-nil m)
  row_points Three p m = absurd (Memᴰ.not-nil m)
  row_points Four p m = absurd (Memᴰ.not-nil m)
  row_points Five p m =
      ⊎_elim (λ (e : p ≡ took_at s (holder_of l)). rw e took_points) (λ (n : Memᴰ p (s.last ∷ [])). only p s.last last_points n)
      (Memᴰ.cases_cons m)
  row_points Six p m = only p s.last last_points m
  row_points Seven p m = only p (done_at s (holder_of l)) done_points m
  row_points Eight p m = only p (done_at s (holder_of l)) done_points m
  row_points Nine p m = only p (done_at s (holder_of l)) done_points m
  row_points Ten p m =
      let b = every_in s.done s.tasks p m in
      record { task_low = λ h. b.0; reached = omega (arith, b.1) }

-- each written ordering names an access made by another task below T
pub written_names : (s : State) (task cell : ℕ) (write : Bool) → Sound s → cell < cell_count s →
    (p : Position) → Memᴰ p (written_of s task cell write) → Names s task p
written_names s task cell write sound low p m =
    let b = written_in task p (orderings_of (row_at s task cell write) s (locality_of s cell)) m in
    let r = row_points s sound (locality_of s cell) (sound.cell cell low).holder_low (row_at s task cell write) p b.0 in
    let some = b.1.some in
    let h : 0 < p.number = omega (arith, some) in
    record { task_low = r.task_low h; other = b.1.other; some = h; reached = r.reached }

-- row 10 orders after each other task that has made an access
pub ten_names : (s : State) (task cell : ℕ) (write : Bool) (other : ℕ) → row_at s task cell write ≡ Ten →
    other < s.tasks → (other ≡ task → ⊥) → 0 < done_of s other → Memᴰ (done_at s other) (written_of s task cell write)
unfolding orderings_of
ten_names s task cell write other e h n d =
    rw e (written_keeps task (done_at s other) (every_done s.done s.tasks) record { some = λ z. omega arith; other = n }
    (every_has s.done s.tasks other h))
