-- Two runs of document 01 ("Runs on the bench") as histories. Run A: it is sound, so the theorem applies, and its replay is computed. The
-- run of four tasks: why row 5 also writes Last.
use Rattle.std.specs.Prelude.{◌≡◌, List, [], ◌∷◌, ℕ, zero, suc, ◌≤◌}
use Rattle.codec.specs.declared.Position.{Position}
use Rattle.history.specs.Entry.{Act, read, write, Entry}
use Rattle.history.specs.Laws.Entry.{ordering}
use Rattle.history.specs.History.{History, there}
use Rattle.history.specs.Faithful.{after}

abbrev pub entry : ℕ → Act → List Position → Entry
entry task act orderings = record { task = task; act = act; orderings = orderings }

abbrev pub zeros : ℕ → ℕ
zeros c = 0

-- RUN A: task 0 writes 7 to cell 0, task 1 reads it, task 0 reads it, task 1 writes 9
abbrev pub writes7 : Entry
writes7 = entry 0 (write 0 7) []

abbrev pub reads1 : Entry
reads1 = entry 1 (read 0 7) (ordering 0 1 ∷ [])

abbrev pub reads0 : Entry
reads0 = entry 0 (read 0 7) (ordering 1 1 ∷ [])

abbrev pub writes9 : Entry
writes9 = entry 1 (write 0 9) (ordering 0 2 ∷ [])

abbrev pub run_a : History
run_a = writes9 ∷ reads0 ∷ reads1 ∷ writes7 ∷ []

-- THE RUN OF FOUR TASKS: task 1 reads cell 0, task 2 reads cell 0 (which makes share 1), task 1 reads cell 1, task 3 reads cell 1 (row
-- 5), task 3 reads cell 0 (row 3, no ordering). The orderings that row 5 writes are a parameter.
abbrev pub four_tasks : List Position → History
four_tasks row5 = entry 3 (read 0 0) [] ∷ entry 3 (read 1 0) row5 ∷ entry 1 (read 1 0) [] ∷ entry 2 (read 0 0) (ordering 1 1 ∷ []) ∷ entry 1 (read 0 0) [] ∷ []

-- Without it there are closed counts that have the first but not the second: tasks 1 and 3 have done two accesses each, task 2 none. So
-- nothing orders task 3's read of cell 0 after share 1.
abbrev pub skipping : ℕ → ℕ
skipping zero = 0
skipping (suc zero) = 2
skipping (suc (suc zero)) = 0
skipping (suc (suc (suc t))) = 2
