-- What an opening's number of records is, by what the bytes read as.
use Rattle.std.specs.Prelude.{◌≡◌, List, ℕ}
use Rattle.replayer.specs.OpenOf.{open_of}
use Rattle.replayer.specs.OpenedOf.{opened_of}

-- number, offset and run on any bytes are those of the opening before F-5
pub record AsBefore (b memory : List ℕ) : Type 0 where
  pub number : (opened_of b memory).number ≡ (open_of b memory).answer.number
  pub offset : (opened_of b memory).offset ≡ (open_of b memory).answer.offset
  pub run : (opened_of b memory).run ≡ (open_of b memory).answer.run
