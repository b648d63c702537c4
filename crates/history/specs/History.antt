-- A history: the entries of a run of the box, newest first; how many of them belong to a task (document 01: Done); and the position of an
-- entry, with everything before it.
use Rattle.std.specs.Prelude.{List, [], ◌∷◌, ℕ, ◌+◌, eqb}
use Rattle.codec.specs.Bit.{bit}
use Rattle.history.specs.Entry.{Entry}

abbrev pub History : Type 0
History = List Entry

-- the number of entries of task t
unfoldable pub count : ℕ → History → ℕ
count t [] = 0
count t (e ∷ g) = bit (eqb e.task t) + count t g

-- e is an entry of the history, and g is everything before it
pub data At (e : Entry) (g : History) : History → Type 0 where
  here : At e g (e ∷ g)
  there : {f : Entry} {h : History} → At e g h → At e g (f ∷ h)
