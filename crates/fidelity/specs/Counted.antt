-- F-5, how many records stand in a box's recording (document 02): for any calls of `access` from an accepted opening, refused ones
-- included, whose recording is opened. No proof is in this file.
use Rattle.std.specs.Prelude.{List, [], ◌∷◌, ◌≡◌, ℕ, ◌+◌, length}
use Rattle.history.specs.Entry.{Entry}
use Rattle.recorder.specs.WholeRun.{Call, Box, left_by}
use Rattle.entries.specs.Records.{records_in}
use Rattle.replayer.specs.OpenedOf.{opened_of}
use Rattle.fidelity.specs.Box.{Opening, Asked, calls_of, first_box, added_by, recording_of, recording_by}

-- the orderings that these entries have before them
unfoldable pub ordering_count : List Entry → ℕ
ordering_count [] = 0
ordering_count (e ∷ es) = length e.orderings + ordering_count es

-- a number of the entries that a call adds, summed up over the calls: in call order, each call on the box that the one before left. A
-- refused call adds no entry.
unfoldable pub summed_up : (List Entry → ℕ) → Box → List Call → ℕ
summed_up f b [] = 0
summed_up f b (c ∷ calls) = f (added_by b c).entries + summed_up f (left_by b c) calls

-- the accesses accepted
abbrev pub accepted_in : Box → List Call → ℕ
accepted_in b calls = summed_up length b calls

-- the orderings that the accepted accesses write
abbrev pub orderings_in : Box → List Call → ℕ
orderings_in b calls = summed_up ordering_count b calls

-- the head, a section for each task, the orderings written and the accesses accepted
abbrev pub written : Opening → List Asked → ℕ
written o asked = 1 + o.tasks + orderings_in (first_box o) (calls_of asked) + accepted_in (first_box o) (calls_of asked)

pub record Counted (o : Opening) (asked : List Asked) (outs : ℕ → List ℕ) (memory : List ℕ) : Type 0 where
  -- 1. That many records has the recording as a value.
  pub records : records_in (recording_by o asked) ≡ written o asked
  -- 2. And that many does the replay opening of its bytes answer.
  pub opened : (opened_of (recording_of o asked outs) memory).records ≡ written o asked
