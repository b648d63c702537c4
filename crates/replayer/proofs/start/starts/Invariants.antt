use mathlib.Core.Path.{◌≡◌}
use Prim.Native.Nat.{◌-◌, ◌≤◌}
use Rattle.codec.specs.Limit.{max_tasks}
use Rattle.replayer.specs.OpenOf.{starts_of}
use Rattle.replayer.proofs.start.starts.Given as goal

abbrev pub invariant-loop-t : goal.invariant-loop-t
invariant-loop-t l = (l.t ≤ l.few) × (l.few ≤ max_tasks) × (l.runs ≡ starts_of l.spans l.t)

abbrev pub decreases-loop-t : goal.decreases-loop-t
decreases-loop-t l = l.few - l.t
