-- An entry of a history: which task did what, and the orderings that hold it back (document 01, "Transition table": an ordering (S, s)
-- before an access means that S must have done at least s accesses). Cells are plain numbers, so a cell can be an object or a field of
-- one.
use Rattle.std.specs.Prelude.{List, Bool, false, ℕ, eqb}
use Rattle.codec.specs.declared.Position.{Position}

-- What a task did. A read is kept with the value it returned, a write with the value it stored. The third sort is a step that touches no
-- cell and carries a number, such as taking a mutex.
pub data Act : Type 0 where
  read : (cell value : ℕ) → Act
  write : (cell value : ℕ) → Act
  acquire : (number : ℕ) → Act

pub record Entry : Type 0 where
  pub task : ℕ
  pub act : Act
  pub orderings : List Position

abbrev pub touches : ℕ → Act → Bool
touches c (read x v) = eqb x c
touches c (write x v) = eqb x c
touches c (acquire n) = false

abbrev pub writes : ℕ → Act → Bool
writes c (read x v) = false
writes c (write x v) = eqb x c
writes c (acquire n) = false

abbrev pub value_of : Act → ℕ
value_of (read x v) = v
value_of (write x v) = v
value_of (acquire n) = 0

-- Two acts conflict if they touch the same cell and at least one of them writes it: a read conflicts with the writes of its cell, a write
-- with every access to its cell.
abbrev pub conflicts : Act → Act → Bool
conflicts (read x v) other = writes x other
conflicts (write x v) other = touches x other
conflicts (acquire n) other = false
