use mathlib.Core.Path.{◌≡◌}
use Prim.Native.Nat.{◌*◌, ◌-◌, ◌/◌, ◌≤◌, ◌<◌}
use lib.ListN.{length}
use Rattle.timed.specs.ScriptOf.{Scripted, accesses_to}
use Rattle.timed.proofs.wk_script.Given as goal

abbrev pub invariant-loop-i : goal.invariant-loop-i
invariant-loop-i l = (5 * l.i ≤ length l.script) × (length l.script < 18446744073709551616) × (length l.memory ≡ length l.initial.memory) × (length l.out ≡ length l.initial.out)
    × (◌≡◌ {A = Scripted} (record { state = l.state; memory = l.memory; out = l.out; digest = l.digest }) (accesses_to l.script l.i (record { state = l.initial.state; memory = l.initial.memory; out = l.initial.out; digest = l.initial.digest })))
    × (l.i ≤ length l.script / 5)

abbrev pub decreases-loop-i : goal.decreases-loop-i
decreases-loop-i l = length l.script - 5 * l.i
