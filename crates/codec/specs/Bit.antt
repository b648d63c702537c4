-- A test as a number, 1 or 0: a bit of a word, or what it adds to a count.
use Rattle.std.specs.Prelude.{Bool, true, false, ℕ}

abbrev pub bit : Bool → ℕ
bit true = 1
bit false = 0
