-- The recorder's state as two arrays of numbers, 4,133 of 16 bits ("halves") and 2,065 of 32 bits ("words"). Halves: T, N, the number of
-- fields, Last's task and number, Done and Took of each task, each cell's case (0 write-held, 1 read-held, 2 shared), each cell's task.
-- Words: G, Seen of each task, each cell's share number. A number of fields above 8 is kept as it stands, and is unsound.
use Rattle.std.specs.Prelude.{cond, List, ◌∷◌, ◌++◌, ℕ, ◌+◌, eqb, get_or}
use Rattle.codec.specs.Store.{store}
use Rattle.codec.specs.Limit.{max_tasks, max_cells}
use Rattle.tracker.specs.declared.Locality.{Locality}
use Rattle.tracker.specs.declared.Locality.TheVariants.{WriteExclusive, ReadExclusive, ReadShared}
use Rattle.tracker.specs.declared.CellRecord.{CellRecord}
use Rattle.tracker.specs.declared.State.{State}
use Rattle.tracker.specs.State.{holder_of, share_of, owned, position}
use Rattle.pending.specs.Each.{each}

-- A cell's record from its case, task and share number. A case above 2 has no meaning: it is read as shared with share number 0, which
-- document 01 calls unsound, so every call answers 17 if the cell is below N times F.
unfoldable pub record_of : ℕ → ℕ → ℕ → CellRecord
record_of case task share = record {
  locality = cond (eqb case 0) (WriteExclusive task) (cond (eqb case 1) (ReadExclusive task) (ReadShared (cond (eqb case 2) share 0)));
}

abbrev pub record_in : List ℕ → List ℕ → ℕ → CellRecord
record_in halves words i = record_of (get_or halves (37 + i) 0) (get_or halves (2085 + i) 0) (get_or words (17 + i) 0)

-- the 16 entries that start at an index
abbrev pub entries_in : List ℕ → ℕ → List ℕ
entries_in l at = each (λ (t : ℕ). get_or l (at + t) 0) max_tasks

-- the state that a pair of arrays stands for
abbrev pub state_in : List ℕ → List ℕ → State
state_in halves words = record {
  tasks = get_or halves 0 0;
  objects = get_or halves 1 0;
  fields = get_or halves 2 0;
  cells = each (record_in halves words) max_cells;
  done = entries_in halves 5;
  seen = entries_in words 1;
  took = entries_in halves 21;
  shares = get_or words 0 0;
  last = position (get_or halves 3 0) (get_or halves 4 0);
}

-- a cell's record as numbers
abbrev pub case_of : Locality → ℕ
case_of (WriteExclusive task) = 0
case_of (ReadExclusive task) = 1
case_of (ReadShared share) = 2

abbrev pub locality_at : List CellRecord → ℕ → Locality
locality_at records i = (get_or records i (owned 0)).locality

abbrev pub cases_of : List CellRecord → ℕ → List ℕ
cases_of records n = each (λ (i : ℕ). case_of (locality_at records i)) n

abbrev pub holders_of : List CellRecord → ℕ → List ℕ
holders_of records n = each (λ (i : ℕ). holder_of (locality_at records i)) n

abbrev pub shares_of : List CellRecord → ℕ → List ℕ
shares_of records n = each (λ (i : ℕ). share_of (locality_at records i)) n

-- the first n entries
abbrev pub first_of : List ℕ → ℕ → List ℕ
first_of l n = each (λ (t : ℕ). get_or l t 0) n

-- the numbers a state is stored as
abbrev pub halves_of : State → List ℕ
halves_of s =
    s.tasks ∷ s.objects ∷ s.fields ∷ s.last.task ∷ s.last.number
    ∷ (first_of s.done max_tasks ++ (first_of s.took max_tasks ++ (cases_of s.cells max_cells ++ holders_of s.cells max_cells)))

abbrev pub words_of : State → List ℕ
words_of s = s.shares ∷ (first_of s.seen max_tasks ++ shares_of s.cells max_cells)

-- an array after a call that changes the state: a refused call leaves it as it was, even where it holds numbers that have no meaning
unfoldable pub moved_to : ℕ → List ℕ → List ℕ → List ℕ
moved_to number l numbers = cond (eqb number 0) (store l 0 numbers) l
