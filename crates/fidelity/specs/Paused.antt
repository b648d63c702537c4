-- F-4, two benches paused at one place (document 02): for the recording of any calls of `access` from an accepted opening, and any two
-- lists of steps, refused ones included. Each bench lends its own memory. No proof is in this file.
use Rattle.std.specs.Prelude.{true, List, ◌≡◌, ℕ}
use Rattle.playability.specs.Order.{times}
use Rattle.replayer.specs.InPlace.{shown_of}
use Rattle.replayer.specs.ReadyOf.{ready_of}
use Rattle.fidelity.specs.Bench.{bench_of, answer_of, takes, AllTaken}
use Rattle.fidelity.specs.Box.{Opening, Asked, recording_of}
use Rattle.fidelity.specs.Statement.{after, done}

module _ (o : Opening) (asked : List Asked) (outs : ℕ → List ℕ) (one other : List ℕ) where
  -- the recording
  abbrev pub file : List ℕ
  file = recording_of o asked outs

  -- each task has done the same number of accesses after these steps on the one bench and those on the other
  abbrev pub AtOnePlace : List ℕ → List ℕ → Type 0
  AtOnePlace steps others = (t : ℕ) → done o asked outs one steps t ≡ done o asked outs other others t

  -- the benches hold the same: every value of memory, the number and the word that `ready` answers, the whole run
  pub record Same (steps others : List ℕ) : Type 0 where
    pub memory : (after o asked outs one steps).memory ≡ (after o asked outs other others).memory
    pub ready : ready_of (after o asked outs one steps).run file ≡ ready_of (after o asked outs other others).run file
    pub run : (after o asked outs one steps).run ≡ (after o asked outs other others).run

  pub record Paused : Type 0 where
    -- 1. Whichever steps led there, refused ones included: at one place the benches hold the same.
    pub at_one_place : (steps others : List ℕ) → AtOnePlace steps others → Same steps others
    -- 2. As document 02 asks it: two allowed orders, each of whose steps is taken, that name every task equally often.
    pub allowed_orders : (steps others : List ℕ) → AllTaken file (bench_of file one) steps → AllTaken file (bench_of file other) others
        → ((t : ℕ) → times t steps ≡ times t others) → Same steps others
    -- 3. What a task has done determines what it does next, wherever the other tasks are: if both benches take its step, they answer the
    -- same kind, object, field, value and number.
    pub next_is_known : (steps others : List ℕ) (t : ℕ) → done o asked outs one steps t ≡ done o asked outs other others t
        → takes file (after o asked outs one steps) t ≡ true → takes file (after o asked outs other others) t ≡ true
        → shown_of (answer_of file (after o asked outs one steps) t) ≡ shown_of (answer_of file (after o asked outs other others) t)
