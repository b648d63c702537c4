use mathlib.Core.Path.{◌≡◌}
use lib.ListN.{length, take}
use Prim.Native.Nat.{◌≤◌, ◌-◌}
use Rattle.codec.specs.Store.{store}
use Rattle.pause.proofs.widen.Given as goal

abbrev pub invariant-loop-i : goal.invariant-loop-i
invariant-loop-i l = (l.i ≤ length l.steps) × (length l.out ≡ length l.initial.out) × (l.out ≡ store l.initial.out 0 (take l.i l.steps))

abbrev pub decreases-loop-i : goal.decreases-loop-i
decreases-loop-i l = length l.steps - l.i
