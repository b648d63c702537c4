-- What an opening's number of records is, by what the bytes read as.
use Rattle.std.specs.Prelude.{Err, Ok, ◌≡◌, refl, List, ℕ}
use Rattle.std.proofs.Common.{ne_eqb}
use Rattle.entries.specs.Reading.{Reading}
use Rattle.entries.specs.Records.{records_in}
use Rattle.reader.specs.Parse.{Parsed, parse}
use Rattle.replayer.specs.OpenedOf.{records_for, opened_of}
use Rattle.replayer.specs.Laws.OpenedOf.{AsBefore}

pub as_before : (b memory : List ℕ) → AsBefore b memory
as_before b memory = record { number = refl; offset = refl; run = refl }

-- accepted: the records of the recording that the bytes are
pub counts-read : (b memory : List ℕ) (p : Parsed) → parse b ≡ Ok p → (opened_of b memory).number ≡ 0 → (opened_of b memory).records ≡ records_in p.recording
unfolding records_for
counts-read b memory p e z = rw (e, z)

none_for : (number : ℕ) (x : Reading Parsed) → (number ≡ 0 → ⊥) → records_for number x ≡ 0
unfolding records_for
none_for number (Err c) h = refl
none_for number (Ok p) h = rw (ne_eqb number 0 h)

-- refused, by the bytes or by 3: none
pub counts-none : (b memory : List ℕ) → ((opened_of b memory).number ≡ 0 → ⊥) → (opened_of b memory).records ≡ 0
counts-none b memory h = none_for (opened_of b memory).number (parse b) h
