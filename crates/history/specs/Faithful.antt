-- THE THEOREM: the replay of a sound history is faithful, for any list of steps (document 01, "Whole runs"). `Faithful start h` says it
-- clause by clause; `faithful` proves it for every sound history. Each clause except the recorded order holds after every list of steps,
-- with task numbers of any size, and for the empty list.
use Rattle.std.specs.Prelude.{◌≡◌, ◌↔◌, List, true, false, ℕ, suc, ◌≤◌, length}
use Rattle.std.proofs.Math.Option.{some}
use Rattle.history.specs.Entry.{Entry}
use Rattle.history.specs.History.{History, count}
use Rattle.history.specs.Access.{Access}
use Rattle.history.specs.Memory.{reference, memory_of}
use Rattle.history.specs.Replay.{State, is_ready, step, answer, takes, run, tally, tally_of, AllTaken, fresh, recorded_order}
use Rattle.history.specs.Ready.{Ready}

module _ (start : ℕ → ℕ) (h : History) where
  -- the state after a list of steps from the start
  abbrev pub after : List ℕ → State
  after steps = run h (fresh start) steps

  pub record Faithful : Type 0 where
    -- 1. A step is taken, that is, it answers, exactly when its task is ready: the task has accesses left, and every ordering before its
    -- next one is met.
    pub taken_when_ready : (steps : List ℕ) (t : ℕ) → (takes h (after steps) t ≡ true) ↔ Ready h (after steps).done t
    -- The replay's own test is true exactly for the ready tasks.
    pub test_tells_ready : (steps : List ℕ) (t : ℕ) → (is_ready h (after steps) t ≡ true) ↔ Ready h (after steps).done t
    -- A step that is not taken changes nothing.
    pub refused_changes_nothing : (steps : List ℕ) (t : ℕ) → takes h (after steps) t ≡ false → step h (after steps) t ≡ after steps
    -- 2. A taken step answers its task's next entry: number, sort, cell, and the value that was read or written on the box. A read's
    -- value comes from the replay's memory, so memory held exactly what the box had read.
    pub answers_recorded : (steps : List ℕ) (t : ℕ) → takes h (after steps) t ≡ true
        → (e : Entry) × Access h t (suc ((after steps).done t)) e
        × (answer h (after steps) t ≡ some (record { number = suc ((after steps).done t); act = e.act }))
    -- 3. Memory is the starting values with the writes that are in.
    pub memory_of_writes : (steps : List ℕ) (c : ℕ) → (after steps).memory c ≡ memory_of start (after steps).done h c
    -- 4. The number of accesses a task has done is the number of its taken steps, and never more than it has in the history;
    pub done_is_tally : (steps : List ℕ) (t : ℕ) → (after steps).done t ≡ tally_of t h (fresh start) steps
    pub done_bounded : (steps : List ℕ) (t : ℕ) → (after steps).done t ≤ count t h
    -- and at most as many steps are taken as there are entries.
    pub tally_bounded : (steps : List ℕ) → tally h (fresh start) steps ≤ length h
    -- A taken step advances its own task by one; no step advances another task.
    pub own_moves_on : (steps : List ℕ) (t : ℕ) → takes h (after steps) t ≡ true
        → (step h (after steps) t).done t ≡ suc ((after steps).done t)
    pub others_stay : (steps : List ℕ) (t u : ℕ) → (u ≡ t → ⊥) → (step h (after steps) t).done u ≡ (after steps).done u
    -- 5. No task is ready exactly when as many steps were taken as there are entries; then each task has done all its accesses, and
    -- memory is the reference memory.
    pub stops_at_end : (steps : List ℕ) → ((t : ℕ) → Ready h (after steps).done t → ⊥) ↔ (tally h (fresh start) steps ≡ length h)
    pub end_done : (steps : List ℕ) → tally h (fresh start) steps ≡ length h → (t : ℕ) → (after steps).done t ≡ count t h
    pub end_memory : (steps : List ℕ) → tally h (fresh start) steps ≡ length h → (c : ℕ) → (after steps).memory c ≡ reference start h c
    -- 6. The recorded order, which is the entries' tasks from the oldest on, is taken completely: every step of it is taken.
    pub takes_recorded_order : AllTaken h (fresh start) (recorded_order h)
    -- 7. Two lists of steps that lead to equal counts lead to equal memory and the same ready tasks.
    pub confluent_memory : (steps others : List ℕ) → ((t : ℕ) → (after steps).done t ≡ (after others).done t)
        → (c : ℕ) → (after steps).memory c ≡ (after others).memory c
    pub confluent_ready : (steps others : List ℕ) → ((t : ℕ) → (after steps).done t ≡ (after others).done t)
        → (t : ℕ) → is_ready h (after steps) t ≡ is_ready h (after others) t
