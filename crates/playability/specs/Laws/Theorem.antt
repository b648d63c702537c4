-- F-2, proved: 18 is answered exactly if there is no order of all accesses among all lists of tasks, and the order that is written is one.
use Rattle.std.specs.Prelude.{◌≡◌, List, ◌∷◌, ◌++◌, ℕ, ◌+◌, ◌*◌, ◌≤◌, ◌<◌, length}
use Rattle.codec.specs.declared.Position.{Position}
use Rattle.codec.specs.Number.{no_room, no_order}
use Rattle.codec.specs.Store.{store}
use Rattle.entries.specs.Accesses.{accesses_in}
use Rattle.history.specs.Closed.{Met}
use Rattle.reader.specs.Parse.{Parsed}
use Rattle.pending.specs.declared.TaskRun.{TaskRun}
use Rattle.pending.specs.Unmet.{Unmet, unmet_of}
use Rattle.playability.specs.Order.{Plays, LowestFirst}
use Rattle.playability.specs.PlayableOf.{refused_playable}
use Rattle.playability.specs.Statement.{HeldUp, answer, after}

-- orderings that are not all met: the first unmet one, and the offset of its record
pub record Parted (runs : List TaskRun) (d : ℕ → ℕ) (at : ℕ) (ps : List Position) : Type 0 where
  pub first : List Position
  pub unmet : Position
  pub rest : List Position
  pub whole : ps ≡ first ++ (unmet ∷ rest)
  pub met : Met d first
  pub below : d unmet.task < unmet.number
  pub is : unmet_of runs at ps ≡ Unmet.first (at + 8 * length first) unmet

-- the answer to a recording: there is no order; there is one and the output is too short; or it is written
pub data Result (b out : List ℕ) (p : Parsed) : Type 0 where
  none : (t offset : ℕ) → answer b out ≡ refused_playable no_order offset t → after b out ≡ out → HeldUp p t offset
      → ((order : List ℕ) → Plays p.recording.bodies order → ⊥) → Result b out p
  short : (order : List ℕ) → answer b out ≡ refused_playable no_room 0 0 → after b out ≡ out → Plays p.recording.bodies order
      → length out < accesses_in p.recording.bodies → Result b out p
  room : (order : List ℕ) → answer b out ≡ record { number = 0; offset = 0; task = 0; steps = accesses_in p.recording.bodies } → after b out ≡ store out 0 order
      → Plays p.recording.bodies order → LowestFirst p.recording.bodies order → accesses_in p.recording.bodies ≤ length out → Result b out p
