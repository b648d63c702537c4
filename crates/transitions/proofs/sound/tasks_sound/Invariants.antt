use Prim.Native.Nat.{◌≤◌, ◌*◌}
use mathlib.Core.Bool.{true}
use mathlib.Core.Path.{◌≡◌}
use Rattle.codec.specs.Limit.{max_accesses}
use Rattle.tracker.specs.Range.{all_below}
use Rattle.tracker.specs.Sum.{sum_of}
use Rattle.tracker.specs.Sound.{task_sound_at}
use Rattle.transitions.proofs.sound.tasks_sound.Given as goal

abbrev pub invariant-loop-t : goal.invariant-loop-t
invariant-loop-t l = (l.t ≤ l.tasks) × ((all_below (task_sound_at l.done l.seen l.took l.shares) l.t ≡ true) × ((l.sum ≡ sum_of l.done l.t) × (l.sum ≤ max_accesses * l.t)))
