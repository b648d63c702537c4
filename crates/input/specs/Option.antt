-- Options among a program's words.
use Rattle.std.specs.Prelude.{Bool, ◌&&◌, List, ℕ, eqb, ltb, length, get_or}

-- the word begins with -
abbrev pub is_option : List ℕ → Bool
is_option word = ltb 0 (length word) && eqb (get_or word 0 0) 45
