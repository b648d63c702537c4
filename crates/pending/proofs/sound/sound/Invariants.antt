use mathlib.Core.Path.{◌≡◌}
use Prim.Native.Nat.{◌-◌, ◌≤◌}
use Rattle.pending.specs.Sound.{task_sound_at}
use Rattle.pending.specs.All.{all_from}
use Rattle.pending.proofs.sound.sound.Given as goal

abbrev pub invariant-loop-t : goal.invariant-loop-t
invariant-loop-t l = (l.t ≤ l.run.tasks) × (all_from (task_sound_at l.run l.size) l.t (l.run.tasks - l.t) ≡ all_from (task_sound_at l.run l.size) 0 l.run.tasks)

abbrev pub decreases-loop-t : goal.decreases-loop-t
decreases-loop-t l = l.run.tasks - l.t
