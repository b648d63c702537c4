-- The replay of a history, as functions on a state (document 01, "Replay" and "Whole runs"). A step names a task by any number; if the
-- task is ready, its next access is done on the memory and answered, otherwise nothing happens. A read answers what the MEMORY holds,
-- never the value kept in the entry. Definitions only; laws about a step are in Laws/Step.
use Rattle.std.specs.Prelude.{◌≡◌, List, [], ◌∷◌, ◌++◌, Bool, true, false, cond, ◌&&◌, ℕ, suc, ◌+◌, eqb, leb}
use Rattle.std.proofs.Math.Option.{Option, some, none}
use Rattle.codec.specs.declared.Position.{Position}
use Rattle.codec.specs.Bit.{bit}
use Rattle.history.specs.Entry.{Act, read, write, acquire, Entry}
use Rattle.history.specs.History.{History, count}

-- how many accesses each task has done, and what each cell holds
pub record State : Type 0 where
  pub done : ℕ → ℕ
  pub memory : ℕ → ℕ

-- what a taken step answers: the number of the access, and its sort, cell and value
pub record Reply : Type 0 where
  pub number : ℕ
  pub act : Act

-- access number n + 1 of task t
unfoldable pub next : ℕ → ℕ → History → Option Entry
next t n [] = none
next t n (e ∷ g) = cond (eqb e.task t && eqb (count t g) n) (some e) (next t n g)

abbrev pub all_met : (ℕ → ℕ) → List Position → Bool
all_met done [] = true
all_met done (o ∷ l) = leb o.number (done o.task) && all_met done l

-- there is a next access, and no ordering holds it back
abbrev pub unheld : (ℕ → ℕ) → Option Entry → Bool
unheld done none = false
unheld done (some e) = all_met done e.orderings

abbrev pub is_ready : History → State → ℕ → Bool
is_ready h s t = unheld s.done (next t (s.done t) h)

-- counts with one more for t
unfoldable pub one_more : ℕ → (ℕ → ℕ) → ℕ → ℕ
one_more t done u = cond (eqb u t) (suc (done u)) (done u)

-- an act done on the memory, and what it shows
abbrev pub perform : Act → (ℕ → ℕ) → ℕ → ℕ
perform (read x v) memory c = memory c
perform (write x v) memory c = cond (eqb x c) v (memory c)
perform (acquire n) memory c = memory c

abbrev pub shown : Act → (ℕ → ℕ) → Act
shown (read x v) memory = read x (memory x)
shown (write x v) memory = write x v
shown (acquire n) memory = acquire n

-- a step, given whether its task is ready and its next access
abbrev pub moved : Bool → ℕ → Option Entry → State → State
moved false t o s = s
moved true t none s = s
moved true t (some e) s = record { done = one_more t s.done; memory = perform e.act s.memory }

abbrev pub replied : Bool → ℕ → Option Entry → State → Option Reply
replied false t o s = none
replied true t none s = none
replied true t (some e) s = some (record { number = suc (s.done t); act = shown e.act s.memory })

unfoldable pub step : History → State → ℕ → State
step h s t = moved (is_ready h s t) t (next t (s.done t) h) s

unfoldable pub answer : History → State → ℕ → Option Reply
answer h s t = replied (is_ready h s t) t (next t (s.done t) h) s

abbrev pub given : Option Reply → Bool
given none = false
given (some r) = true

-- a step is taken if it answers
abbrev pub takes : History → State → ℕ → Bool
takes h s t = given (answer h s t)

-- a list of steps, one after the other
unfoldable pub run : History → State → List ℕ → State
run h s [] = s
run h s (t ∷ steps) = run h (step h s t) steps

-- how many steps of a list are taken, and how many of those by task u
unfoldable pub tally : History → State → List ℕ → ℕ
tally h s [] = 0
tally h s (t ∷ steps) = bit (takes h s t) + tally h (step h s t) steps

unfoldable pub tally_of : ℕ → History → State → List ℕ → ℕ
tally_of u h s [] = 0
tally_of u h s (t ∷ steps) = bit (takes h s t && eqb t u) + tally_of u h (step h s t) steps

unfoldable pub AllTaken : History → State → List ℕ → Type 0
AllTaken h s [] = Unit {0}
AllTaken h s (t ∷ steps) = (takes h s t ≡ true) × AllTaken h (step h s t) steps

-- nothing done, and the starting values in memory
abbrev pub fresh : (ℕ → ℕ) → State
fresh start = record { done = λ t. 0; memory = start }

-- the tasks of a history's entries in the order in which the box made the accesses
unfoldable pub recorded_order : History → List ℕ
recorded_order [] = []
recorded_order (e ∷ g) = recorded_order g ++ (e.task ∷ [])
