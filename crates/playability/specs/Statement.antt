-- F-2, the claim about the call's answers over any bytes and any output (document 02, F-2). No proof is in this file.
use Rattle.codec.specs.Reason.{number_of}
use Rattle.std.specs.Prelude.{Err, Ok, List, ◌∷◌, ◌++◌, ◌↔◌, ◌≡◌, ℕ, ◌+◌, ◌*◌, ◌≤◌, ◌<◌, length, get_or, take}
use Rattle.codec.specs.declared.Position.{Position}
use Rattle.codec.specs.Number.{no_room, no_order, ByReader}
use Rattle.codec.specs.Store.{store}
use Rattle.entries.specs.declared.Refusal.{Refusal}
use Rattle.entries.specs.Accesses.{accesses_in}
use Rattle.entries.specs.Recording.{no_entry}
use Rattle.history.specs.Closed.{Met}
use Rattle.reader.specs.Calls.{no_span}
use Rattle.reader.specs.Parse.{Parsed, parse}
use Rattle.playability.specs.declared.Playability.{Playability}
use Rattle.playability.specs.Order.{times, body_of, size_of, Allowed, Plays, LowestFirst, StaysHeld}
use Rattle.playability.specs.PlayableOf.{refused_playable, playable_of}

-- what holds a task up: the orderings before its next access, after the most accesses it can ever do
pub record HeldUp (p : Parsed) (t offset : ℕ) : Type 0 where
  -- the task stays held, and every lower one can do all its accesses
  pub stays : StaysHeld p.recording.bodies t
  pub lowest : (u : ℕ) → u < t → StaysHeld p.recording.bodies u → ⊥
  -- an allowed order that no other one outdoes
  pub order : List ℕ
  pub allowed : Allowed p.recording.bodies order
  pub most : (other : List ℕ) → Allowed p.recording.bodies other → (u : ℕ) → times u other ≤ times u order
  -- of the orderings before the task's next access the first ones are met; the next one no allowed order meets; the offset is its record's
  pub first : List Position
  pub unmet : Position
  pub rest : List Position
  pub group : (get_or (body_of p.recording.bodies t) (times t order) no_entry).orderings ≡ first ++ (unmet ∷ rest)
  pub met : Met (λ s. times s order) first
  pub never : (other : List ℕ) → Allowed p.recording.bodies other → times unmet.task other < unmet.number
  pub place : offset ≡ (get_or p.spans t no_span).start + size_of (take (times t order) (body_of p.recording.bodies t)) + 8 * length first

module _ (b out : List ℕ) where
  abbrev pub answer : Playability
  answer = (playable_of b out).answer

  abbrev pub after : List ℕ
  after = (playable_of b out).out

  pub record Answers : Type 0 where
    -- 1. Bytes that do not read: the reader's number, 10 to 14, and offset.
    pub bytes_first : (c : Refusal) → parse b ≡ Err c → (answer ≡ refused_playable (number_of c.reason) c.offset 0) × ByReader (number_of c.reason)
    -- 2. 18 exactly if no list of tasks is an order of all accesses; with it the lowest task that stays held and what holds it up.
    pub without_order : (p : Parsed) → parse b ≡ Ok p → (answer.number ≡ no_order) ↔ ((order : List ℕ) → Plays p.recording.bodies order → ⊥)
    pub held_up : (p : Parsed) → parse b ≡ Ok p → answer.number ≡ no_order → HeldUp p answer.task answer.offset
    -- 3. 9 exactly if there is an order and the output is shorter than the number of accesses.
    pub no_room_left : (p : Parsed) → parse b ≡ Ok p
        → (answer.number ≡ no_room) ↔ (((order : List ℕ) × Plays p.recording.bodies order) × (length out < accesses_in p.recording.bodies))
    -- 4. 0 exactly if there is an order and room for it; what is written is one, the lowest ready task next at each place, from the
    -- output's start, and the rest of the output is as it was.
    pub accepted : (p : Parsed) → parse b ≡ Ok p
        → (answer.number ≡ 0) ↔ (((order : List ℕ) × Plays p.recording.bodies order) × (accesses_in p.recording.bodies ≤ length out))
    pub order_written : (p : Parsed) → parse b ≡ Ok p → answer.number ≡ 0
        → (order : List ℕ) × Plays p.recording.bodies order × LowestFirst p.recording.bodies order
        × (answer.steps ≡ accesses_in p.recording.bodies) × (after ≡ store out 0 order)
    -- 5. A refusal leaves the output as it was and answers no steps. Task and offset are 0 where they mean nothing.
    pub refusal_keeps : (answer.number ≡ 0 → ⊥) → (after ≡ out) × (answer.steps ≡ 0)
    pub nothing_held : (p : Parsed) → parse b ≡ Ok p → (answer.number ≡ no_order → ⊥) → (answer.task ≡ 0) × (answer.offset ≡ 0)
