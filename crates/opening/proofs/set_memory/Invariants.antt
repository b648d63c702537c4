use Rattle.std.proofs.Common.{◌≡◌, length, take}
use Rattle.opening.proofs.set_memory.Given as goal

abbrev pub invariant-loop-i : goal.invariant-loop-i
invariant-loop-i l = (length l.memory ≡ length l.starts) × (take l.i l.memory ≡ take l.i l.starts)
