-- Bytes that read as a recording of a history: the replay's side of demand 3 assumes this, and the recorder's side proves it.
use Rattle.std.specs.Prelude.{Ok, List, [], ◌≡◌, ℕ, ◌<◌, get_or, length}
use Rattle.reader.specs.Parse.{Parsed, parse}
use Rattle.history.specs.Entry.{Act, Entry}
use Rattle.history.specs.History.{History, At}
use Rattle.history.specs.Sound.{Sound}
use Rattle.fidelity.specs.Filed.{filed_of}
use Rattle.codec.specs.Cell.{cells_of}

-- an act that a record can represent: a read or a write
abbrev pub Recordable : Act → Type 0
Recordable (Act.read c v) = Unit {0}
Recordable (Act.write c v) = Unit {0}
Recordable (Act.acquire n) = ⊥

pub record Matches (start : ℕ → ℕ) (h : History) (b : List ℕ) (p : Parsed) : Type 0 where
  pub reads : parse b ≡ Ok p
  pub sound : Sound start h
  pub tasks_low : {e : Entry} {g : History} → At e g h → e.task < p.recording.tasks
  pub recordable : {e : Entry} {g : History} → At e g h → Recordable e.act
  pub bodies : (t : ℕ) → t < p.recording.tasks → get_or p.recording.bodies t [] ≡ filed_of p.recording.fields t h
  pub values : (c : ℕ) → c < cells_of p.recording.fields (length p.recording.owners) → get_or p.recording.values c 0 ≡ start c
