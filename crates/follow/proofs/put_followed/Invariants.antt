use mathlib.Core.Path.{◌≡◌}
use Prim.Native.Nat.{◌≤◌}
use lib.ListN.{length}
use Rattle.entries.specs.Reading.{numbered}
use Rattle.follow.specs.Laws.Follow.{Following}
use Rattle.follow.proofs.put_followed.Given as goal

abbrev pub invariant-loop-step : goal.invariant-loop-step
invariant-loop-step l = (l.step-index ≤ length l.steps) × (length l.memory ≡ length l.initial.memory) × (length l.out ≡ length l.initial.out) × (l.p.steps ≤ l.step-index) × (l.p.stopped ≡ numbered 0 0)
    × Following l.bytes l.most l.counts (record { run = l.initial.p.run; memory = l.initial.memory; steps = 0 }) l.steps l.initial.out (record { run = l.p.run; memory = l.memory; steps = l.p.steps }) l.step-index l.out l.p.at
