-- Run A (document 01, "Runs on the bench") as a whole run: an opening, calls with a refused one among them, and the lent buffers.
use Rattle.std.specs.Prelude.{List, [], ◌∷◌, ℕ, replicate}
use Rattle.recorder.specs.WholeRun.{Call}
use Rattle.fidelity.specs.Box.{Opening, Asked}

-- two tasks, and two objects that task 0 owns, with starting value 0
abbrev pub opening : Opening
opening = record { tasks = 2; objects = 2; fields = 0; owners = 0 ∷ 0 ∷ []; starts = 0 ∷ 0 ∷ []; memory = 1 ∷ 1 ∷ []; out = replicate 20 0; fits = (lib.Dec.lit< tt, (lib.Dec.lit< tt, tt)) }

abbrev reads : ℕ → Asked
reads task = record { call = Call.access (record { task = task; object = 0; field = 0; sort = 0; value = 0; out = replicate 40 0 }); fits = lib.Dec.lit< tt }

-- task 0 writes 7, task 1 reads it, task 0 reads it, task 1 writes 9; a call for task 5, which does not exist, is refused in between
abbrev pub calls : List Asked
calls =
    record { call = Call.access (record { task = 0; object = 0; field = 0; sort = 1; value = 7; out = replicate 40 0 }); fits = lib.Dec.lit< tt }
    ∷ reads 1
    ∷ reads 5
    ∷ reads 0
    ∷ record { call = Call.access (record { task = 1; object = 0; field = 0; sort = 1; value = 9; out = replicate 40 0 }); fits = lib.Dec.lit< tt }
    ∷ []

-- an output for each section, and a memory for the replay
abbrev pub outs : ℕ → List ℕ
outs t = replicate 50 0

abbrev pub lent : List ℕ
lent = 3 ∷ 3 ∷ []
