use mathlib.Core.Path.{◌≡◌}
use Prim.Native.Nat.{◌-◌, ◌≤◌, ◌<◌}
use lib.ListN.{length}
use Rattle.timed.specs.ReplayOf.{steps_in}
use Rattle.timed.proofs.wk_replay.Given as goal

abbrev pub invariant-loop : goal.invariant-loop
invariant-loop l = (l.counter ≤ length l.bytes) × (length l.bytes < 18446744073709551616) × (length l.memory ≡ length l.initial.memory)
    × (steps_in (length l.bytes - l.counter) l.bytes (record { run = l.run; memory = l.memory; digest = l.digest }) ≡ steps_in (length l.bytes) l.bytes (record { run = l.initial.run; memory = l.initial.memory; digest = l.initial.digest }))

abbrev pub decreases-loop : goal.decreases-loop
decreases-loop l = length l.bytes - l.counter
