-- A play reaches its end: each step taken leaves one access fewer, so the allowed number of steps is never used up before, and at the end
-- no task is ready, or the step of the lowest ready one gives 19.
use Rattle.std.specs.Prelude.{◌≡◌, true, false, List, length}
use Prim.Native.Nat.{ℕ, ◌+◌}
use Rattle.codec.specs.declared.Op.{Op}
use Rattle.scheduler.specs.Finish.{Play, word_at, task_next, goes_on, onward, left_over}
use Rattle.pending.specs.Laws.Moved.{Shaped}
use Rattle.pending.specs.Run.{cell_count}
use Rattle.pending.specs.Sound.{sound_of}
use Rattle.replayer.specs.Laws.StepOf.{Differs}

-- a sound run with a memory of N entries
pub record Playing (b : List ℕ) (x : Play) : Type 0 where
  pub sound : sound_of x.run (length b) ≡ true
  pub shaped : Shaped x.run
  pub entries : length x.memory ≡ cell_count x.run

-- one more step of a play
pub record Onward (b : List ℕ) (x : Play) : Type 0 where
  pub playing : Playing b (onward b x)
  pub fewer : left_over (onward b x).run + 1 ≡ left_over x.run

-- a play that does not go on: no task is ready, or the step of the lowest ready one gives 19
pub data Ends (b : List ℕ) (x : Play) : Type 0 where
  none-ready : word_at b x ≡ 0 → Ends b x
  stopped : (op : Op) (next : ℕ) → Differs x.run b x.memory (task_next b x) op next → Ends b x

-- the number of steps is enough: at the end the play does not go on
pub record Ended (b : List ℕ) (x : Play) : Type 0 where
  pub playing : Playing b x
  pub over : goes_on b x ≡ false
