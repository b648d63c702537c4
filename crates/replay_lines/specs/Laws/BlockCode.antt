-- How the code of the pause's lines goes: each line's length by its parts, the front of the counts, and the tasks of a word bit by bit.
use Rattle.std.specs.Prelude.{◌≡◌, List, [], ◌∷◌, ◌++◌, length, take}
use Rattle.std.proofs.Common.{◌∙◌}
use Prim.Native.Nat.{ℕ, ◌+◌, ◌-◌, ◌/◌, ◌%◌, ◌<◌, ◌≤◌}
use Rattle.replayer.specs.Word.{has_bit}
use Rattle.replay_lines.specs.Block.{chosen, ready_tasks}

-- n tasks of the word are found below t, and w is what is left of the word
pub record Picked (word w : ℕ) (tasks : List ℕ) (n t : ℕ) : Type 0 where
  pub within : t ≤ 16
  pub few : n ≤ t
  pub long : length tasks ≡ 16
  pub left : (s : ℕ) → has_bit word (t + s) ≡ has_bit w s
  pub found : ready_tasks word ≡ take n tasks ++ chosen (has_bit word) t (16 - t)
