-- Orders of accesses (document 02, F-2: "an order of all accesses that keeps each task's own order and every ordering"). An order is a list
-- of tasks: where a task is named for the k-th time its k-th access is done, so that each task's own order is kept.
use Rattle.std.specs.Prelude.{List, [], ◌∷◌, ℕ, ◌+◌, ◌≤◌, ◌<◌, ◌≡◌, eqb, length, get_or, take}
use Rattle.codec.specs.Bit.{bit}
use Rattle.entries.specs.Bytes.{entry_length}
use Rattle.entries.specs.Recording.{Entry, no_entry}
use Rattle.history.specs.Closed.{Met}

-- how often a list of steps names a task: the number of accesses it has then done
unfoldable pub times : ℕ → List ℕ → ℕ
times t [] = 0
times t (u ∷ us) = bit (eqb u t) + times t us

-- a task's accesses with their orderings
abbrev pub body_of : List (List Entry) → ℕ → List Entry
body_of bodies t = get_or bodies t []

-- the bytes of some accesses with their orderings
unfoldable pub size_of : List Entry → ℕ
size_of [] = 0
size_of (e ∷ es) = entry_length e + size_of es

-- a task is ready after some steps: it has accesses left, and every ordering before its next one is met
pub record Ready (bodies : List (List Entry)) (before : List ℕ) (t : ℕ) : Type 0 where
  pub left : times t before < length (body_of bodies t)
  pub met : Met (λ s. times s before) (get_or (body_of bodies t) (times t before) no_entry).orderings

-- each step is of a task that is ready after the steps before it: every ordering is kept
abbrev pub Allowed : List (List Entry) → List ℕ → Type 0
Allowed bodies order = (n : ℕ) → n < length order → Ready bodies (take n order) (get_or order n 0)

-- an order of all accesses
pub record Plays (bodies : List (List Entry)) (order : List ℕ) : Type 0 where
  pub allowed : Allowed bodies order
  pub whole : (t : ℕ) → times t order ≡ length (body_of bodies t)

-- "always the lowest ready task next"
abbrev pub LowestFirst : List (List Entry) → List ℕ → Type 0
LowestFirst bodies order = (n : ℕ) → n < length order → (u : ℕ) → Ready bodies (take n order) u → get_or order n 0 ≤ u

-- no allowed order does all accesses of the task
abbrev pub StaysHeld : List (List Entry) → ℕ → Type 0
StaysHeld bodies t = (order : List ℕ) → Allowed bodies order → times t order < length (body_of bodies t)
