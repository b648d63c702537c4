-- A history's entries in the form of a recording (document 01, "Records"): for each task its accesses with their orderings, oldest first.
use Rattle.std.specs.Prelude.{Bool, true, false, cond, List, [], ◌∷◌, ◌++◌, ℕ, zero, suc, eqb}
use Rattle.codec.specs.declared.Op.{Op}
use Rattle.codec.specs.Encode.{op_of}
use Rattle.entries.specs.Recording.{Entry as FileEntry}
use Rattle.history.specs.Entry.{Act, read, write, acquire, Entry}
use Rattle.history.specs.History.{History}
use Rattle.codec.specs.Cell.{object_at, field_at}

-- an access under a head: its cell is a field of an object (document 02, F-6)
abbrev pub filed_as : ℕ → Bool → ℕ → ℕ → Op
filed_as fields writing cell value = op_of fields writing (object_at fields cell) (field_at fields cell) value

abbrev pub filed_op : ℕ → Act → Op
filed_op fields (read c v) = filed_as fields false c v
filed_op fields (write c v) = filed_as fields true c v
filed_op fields (acquire n) = filed_as fields false n 0

abbrev pub filed : ℕ → Entry → FileEntry
filed fields e = record { orderings = e.orderings; op = filed_op fields e.act }

-- task t's accesses, oldest first
unfoldable pub filed_of : ℕ → ℕ → History → List FileEntry
filed_of fields t [] = []
filed_of fields t (e ∷ g) = cond (eqb e.task t) (filed_of fields t g ++ (filed fields e ∷ [])) (filed_of fields t g)

-- the bodies of k tasks from t upward
unfoldable pub bodies_from : ℕ → History → ℕ → ℕ → List (List FileEntry)
bodies_from fields h t zero = []
bodies_from fields h t (suc k) = filed_of fields t h ∷ bodies_from fields h (suc t) k
