-- Which row of the transition table an access takes (document 01, columns "State" and "Access").
use Rattle.std.specs.Prelude.{Bool, cond, ℕ, eqb, leb}
use Rattle.tracker.specs.State.{locality_of, seen_of}
use Rattle.tracker.specs.declared.Locality.{Locality}
use Rattle.tracker.specs.declared.Locality.TheVariants.{WriteExclusive, ReadExclusive, ReadShared}
use Rattle.tracker.specs.declared.Row.{Row}
use Rattle.tracker.specs.declared.Row.TheVariants.{One, Two, Three, Four, Five, Six, Seven, Eight, Nine, Ten}
use Rattle.tracker.specs.declared.State.{State}

-- the row of an access by task T2, whose Seen is `seen`
unfoldable pub row_of : Locality → ℕ → ℕ → Bool → Row
row_of (WriteExclusive holder) task seen write = cond (eqb holder task) One (cond write Seven Eight)
row_of (ReadExclusive holder) task seen write = cond (eqb holder task) (cond write Four Two) (cond write Nine Five)
row_of (ReadShared share) task seen write = cond write Ten (cond (leb share seen) Three Six)

-- the row of an access in a state
abbrev pub row_at : State → ℕ → ℕ → Bool → Row
row_at s task cell write = row_of (locality_of s cell) task (seen_of s task) write

-- a row's number
abbrev pub number_of : Row → ℕ
number_of One = 1
number_of Two = 2
number_of Three = 3
number_of Four = 4
number_of Five = 5
number_of Six = 6
number_of Seven = 7
number_of Eight = 8
number_of Nine = 9
number_of Ten = 10
