-- What a replay writes besides the lines of its steps if it can be paused (document 02, F-4): a line for a step that is not taken, and
-- where it pauses `paused` with the steps done, `done` with the accesses that each task has done, `ready` with the ready tasks, and the
-- memory.
use Rattle.std.specs.Prelude.{Bool, cond, List, [], ◌∷◌, ◌++◌, ℕ, zero, suc}
use Rattle.pending.specs.declared.Run.{Run}
use Rattle.pending.specs.Each.{each}
use Rattle.pending.specs.Run.{done_of}
use Rattle.replayer.specs.Word.{has_bit}
use Rattle.text.specs.Decimal.{field_of}
use Rattle.replay_lines.specs.Lines.{spaced, memory_of}

-- the task, `refused`, the number
unfoldable pub turned_line : ℕ → ℕ → List ℕ
turned_line task number = field_of task 32 ++ (114 ∷ 101 ∷ 102 ∷ 117 ∷ 115 ∷ 101 ∷ 100 ∷ 32 ∷ []) ++ field_of number 10

-- words and then numbers, each after a space
unfoldable pub row_of : List ℕ → List ℕ → List ℕ
row_of words ns = words ++ spaced ns ++ (10 ∷ [])

-- the tasks from i on, of n, that pass a test
unfoldable pub chosen : (ℕ → Bool) → ℕ → ℕ → List ℕ
chosen f i zero = []
chosen f i (suc n) = cond (f i) (i ∷ chosen f (suc i) n) (chosen f (suc i) n)

-- the tasks of a ready word
abbrev pub ready_tasks : ℕ → List ℕ
ready_tasks word = chosen (has_bit word) 0 16

-- `paused` and the steps
unfoldable pub paused_line : ℕ → List ℕ
paused_line steps = (112 ∷ 97 ∷ 117 ∷ 115 ∷ 101 ∷ 100 ∷ 32 ∷ []) ++ field_of steps 10

-- `done` and each task's count; `ready` and the ready tasks
abbrev pub done_line : Run → List ℕ
done_line r = row_of (100 ∷ 111 ∷ 110 ∷ 101 ∷ []) (each (done_of r.runs) r.tasks)

abbrev pub ready_line : ℕ → List ℕ
ready_line word = row_of (114 ∷ 101 ∷ 97 ∷ 100 ∷ 121 ∷ []) (ready_tasks word)

unfoldable pub block_of : ℕ → Run → ℕ → List ℕ → List ℕ
block_of steps r word memory = paused_line steps ++ done_line r ++ ready_line word ++ memory_of memory
