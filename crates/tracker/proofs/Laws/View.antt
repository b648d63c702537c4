-- The table's rows by cases, for proofs: each row with the cell's state and the access it is for.
use Rattle.std.specs.Prelude.{Bool, true, false, ◌≡◌, refl, ℕ, ◌≤◌, ◌<◌, eqb, leb}
use Rattle.std.proofs.Common.{eqb-true, leb-true, leb-false}
use Rattle.std.proofs.lemmas.Bool.{eqb-false}
use Rattle.tracker.specs.Row.{row_of}
use Rattle.tracker.specs.declared.Locality.{Locality}
use Rattle.tracker.specs.declared.Locality.TheVariants.{WriteExclusive, ReadExclusive, ReadShared}
use Rattle.tracker.specs.declared.Row.{Row}
use Rattle.tracker.specs.declared.Row.TheVariants.{One, Two, Three, Four, Five, Six, Seven, Eight, Nine, Ten}
use Rattle.tracker.specs.Laws.View.{View, eight, five, four, nine, one, seven, six, ten, three, two}

pub view : (l : Locality) (task seen : ℕ) (write : Bool) → View task seen l write (row_of l task seen write)
unfolding row_of
view (WriteExclusive holder) task seen write = cases (eqb holder task) write refl
  where
    cases : (own write : Bool) → eqb holder task ≡ own → View task seen (WriteExclusive holder) write (row_of (WriteExclusive holder) task seen write)
    cases true write e = rw (e, eqb-true holder task e) (one write)
    cases false true e = rw e (seven holder (eqb-false holder task e))
    cases false false e = rw e (eight holder (eqb-false holder task e))
view (ReadExclusive holder) task seen write = cases (eqb holder task) write refl
  where
    cases : (own write : Bool) → eqb holder task ≡ own → View task seen (ReadExclusive holder) write (row_of (ReadExclusive holder) task seen write)
    cases true true e = rw (e, eqb-true holder task e) four
    cases true false e = rw (e, eqb-true holder task e) two
    cases false true e = rw e (nine holder (eqb-false holder task e))
    cases false false e = rw e (five holder (eqb-false holder task e))
view (ReadShared share) task seen write = cases (leb share seen) write refl
  where
    cases : (low write : Bool) → leb share seen ≡ low → View task seen (ReadShared share) write (row_of (ReadShared share) task seen write)
    cases low true e = ten share
    cases true false e = rw e (three share (leb-true share seen e))
    cases false false e = rw e (six share (leb-false share seen e))
