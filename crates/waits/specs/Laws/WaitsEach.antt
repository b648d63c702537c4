-- A task that has accesses left and is not ready, and whose next entry can be read, has its line.
use Rattle.std.specs.Prelude.{◌≡◌, List, ℕ}
use Rattle.codec.specs.declared.Position.{Position}
use Rattle.pending.specs.declared.Run.{Run}
use Rattle.pending.specs.Unmet.{Unmet, first, unmet_next}
use Rattle.waits.specs.Waits.{wait_line, wait_of}

-- an ordering holds it up
pub record Held (u : Unmet) : Type 0 where
  pub place : ℕ
  pub ordering : Position
  pub is : u ≡ first place ordering

-- a task waits for an ordering, and its line says so
pub record Waiting (b : List ℕ) (r : Run) (t : ℕ) : Type 0 where
  pub place : ℕ
  pub ordering : Position
  pub unmet : unmet_next r b t ≡ first place ordering
  pub line : wait_of b r t ≡ wait_line t (first place ordering)
