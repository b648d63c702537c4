-- A box's own recording can be played to its end (document 02, F-2): the call `playable` never gives it 18, and given room it answers an
-- order of all recorded accesses. Nothing is assumed about the calls. No proof is in this file.
use Rattle.std.specs.Prelude.{List, ◌≡◌, ℕ, ◌≤◌, ◌<◌, length}
use Rattle.codec.specs.Number.{no_room, no_order}
use Rattle.playability.specs.PlayableOf.{playable_of}
use Rattle.sections.specs.SectionOf.{section_of}
use Rattle.fidelity.specs.Box.{Opening, opened_by, Asked, last_box, recorded, recording_of}

-- the opening and the sections answered 0
pub record Packed (o : Opening) (asked : List Asked) (outs : ℕ → List ℕ) : Type 0 where
  pub opened : (opened_by o).answer.number ≡ 0
  pub packed : (t : ℕ) → t < o.tasks → (section_of (last_box o asked).state t ((last_box o asked).logs t) (outs t)).answer.number ≡ 0

pub record BoxPlays (o : Opening) (asked : List Asked) (outs : ℕ → List ℕ) (out : List ℕ) : Type 0 where
  pub never_held : (playable_of (recording_of o asked outs) out).answer.number ≡ no_order → ⊥
  pub with_room : length (recorded o asked) ≤ length out
      → ((playable_of (recording_of o asked outs) out).answer.number ≡ 0) × ((playable_of (recording_of o asked outs) out).answer.steps ≡ length (recorded o asked))
  pub without : length out < length (recorded o asked) → (playable_of (recording_of o asked outs) out).answer.number ≡ no_room
