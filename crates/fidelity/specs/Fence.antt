-- What a fence gains (document 02, F-1): after an access by row 6 its task reads every cell that was shared then by row 3, until somebody
-- writes that cell, whatever else is shared meanwhile. Over any calls, refused ones included.
use Rattle.std.specs.Prelude.{Bool, true, false, not, ◌&&◌, List, [], ◌∷◌, ◌≡◌, ℕ, ◌<◌, eqb}
use Rattle.tracker.specs.State.{locality_of}
use Rattle.tracker.specs.declared.Locality.{Locality}
use Rattle.tracker.specs.declared.Locality.TheVariants.{WriteExclusive, ReadExclusive, ReadShared}
use Rattle.recorder.specs.AccessOf.{is_write, cell_at}
use Rattle.recorder.specs.WholeRun.{AccessCall, Call, Box, outcome, called, left_by, called_all}
use Rattle.fidelity.specs.Box.{accepts, cell_by}
use Rattle.codec.specs.Cell.{width_of}

-- the call is accepted and writes the cell
abbrev pub writes_to : ℕ → Box → Call → Bool
writes_to cell b (Call.access c) = accepts b c && (is_write c.sort && eqb (cell_by b c) cell)

-- no call of the list does
unfoldable pub unwritten : ℕ → Box → List Call → Bool
unwritten cell b [] = true
unwritten cell b (c ∷ calls) = not (writes_to cell b c) && unwritten cell (left_by b c) calls

-- the cell is in some share
abbrev pub is_shared : Locality → Bool
is_shared (WriteExclusive task) = false
is_shared (ReadExclusive task) = false
is_shared (ReadShared share) = true

-- a read of an object's field by the task
abbrev pub read_by : ℕ → ℕ → ℕ → ℕ → List ℕ → AccessCall
read_by task object field value out = record { task = task; object = object; field = field; sort = 0; value = value; out = out }

-- from the box: the fence, then the calls, then a read that is accepted
abbrev pub FenceLasts : Box → Type 0
FenceLasts b = (fence : AccessCall) (object field : ℕ) (calls : List Call) (value : ℕ) (out : List ℕ)
    → (outcome b fence).answer.row ≡ 6 → object < b.state.objects → field < width_of b.state.fields
    → is_shared (locality_of b.state (cell_at b.state object field)) ≡ true
    → unwritten (cell_at b.state object field) (called b fence) calls ≡ true
    → accepts (called_all (called b fence) calls) (read_by fence.task object field value out) ≡ true
    → (outcome (called_all (called b fence) calls) (read_by fence.task object field value out)).answer.row ≡ 3
