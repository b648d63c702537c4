-- One access done on the memory (document 01, "Replay"), at its cell (document 02, F-6): a write stores and answers its own value, a read
-- answers the memory's.
use Rattle.std.specs.Prelude.{Bool, true, cond, List, ℕ, eqb, get_or, set}
use Rattle.codec.specs.declared.Op.{Op}
use Rattle.codec.specs.Kind.{writes, is_valued_read}

-- the value that is answered
abbrev pub value_of : ℕ → Op → List ℕ → ℕ
value_of cell op memory = cond (writes op.kind) op.value (get_or memory cell 0)

-- the memory after the access
abbrev pub performed : ℕ → Op → List ℕ → List ℕ
performed cell op memory = cond (writes op.kind) (set memory cell op.value) memory

-- a read whose record holds a value finds that value in the memory; other accesses are not compared (document 02, F-3, F-6)
abbrev pub agrees : ℕ → Op → List ℕ → Bool
agrees cell op memory = cond (is_valued_read op.kind) (eqb (get_or memory cell 0) op.value) true
