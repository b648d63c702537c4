-- What opening answers if the memory has N entries by the head alone: the bytes are refused, with the reader's number and offset, or they read
-- as a recording, and the replay is at its start. 3 cannot come.
use Rattle.std.specs.Prelude.{Err, Ok, ◌≡◌, refl, List, ℕ, length}
use Rattle.std.proofs.Common.{◌∙◌}
use Rattle.entries.specs.Reading.{Reading}
use Rattle.reader.specs.Calls.{cells_by}
use Rattle.reader.specs.Laws.Numbered.{parse-numbered}
use Rattle.reader.specs.Laws.CellsByHead.{cells_read}
use Rattle.reader.specs.Parse.{Parsed, head_at, parse}
use Rattle.replayer.specs.declared.Opened.{Opened}
use Rattle.replayer.proofs.Laws.OpenOf.{open_accepts}
use Rattle.replayer.specs.OpenedOf.{opened_of}
use Rattle.replayer.specs.OpenOf.{on_parse, open_of}
use Rattle.replayer.specs.Laws.ByHead.{Opening, away, found}

pub opening : (b k : List ℕ) (o : Opened) (m : List ℕ) → length k ≡ cells_by (head_at b) → o ≡ opened_of b k → m ≡ (open_of b k).memory → Opening b o m
unfolding open_of on_parse
opening b k o m w f g = go (parse b) refl
  where
    go : (x : Reading Parsed) → parse b ≡ x → Opening b o m
    go (Err c) q = away c q (rw (f, q)) (rw (f, q)) (rw q at (parse-numbered b))
    go (Ok p) q =
        let a = open_accepts b k p q (w ∙ cells_read b p q) in
        found p q (rw (f, a)) (rw (f, a)) (rw (g, a))
