-- One pass of each loop of the opening, and the opening as the code does it.
use Rattle.std.specs.Prelude.{◌≡◌, List, ℕ}
use Rattle.reader.specs.declared.layout.Layout.{Layout}
use Rattle.reader.specs.Parse.{parse}
use Rattle.reader.specs.Starting.{starting_in}
use Rattle.replayer.specs.OpenOf.{begun_of, refused_open, open_of}
use Rattle.replayer.specs.OpenedOf.{records_for}

-- what opening finds in the layout
pub record Refusing (b memory : List ℕ) (number offset : ℕ) : Type 0 where
  pub answer : refused_open number offset ≡ (open_of b memory).answer
  pub records : 0 ≡ records_for (open_of b memory).answer.number (parse b)
  pub kept : memory ≡ (open_of b memory).memory

pub record Opening (b memory : List ℕ) (l : Layout) : Type 0 where
  pub answer : record { number = 0; offset = 0; run = begun_of l } ≡ (open_of b memory).answer
  pub records : l.records ≡ records_for (open_of b memory).answer.number (parse b)
  pub values : starting_in l.fields l.objects b memory ≡ (open_of b memory).memory
