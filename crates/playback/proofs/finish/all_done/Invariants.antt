use mathlib.Core.Path.{◌≡◌}
use Prim.Native.Nat.{◌-◌, ◌≤◌}
use Rattle.pending.specs.All.{all_from}
use Rattle.scheduler.specs.Laws.Columns.{done_by, all_done_of}
use Rattle.playback.proofs.finish.all_done.Given as goal

abbrev pub invariant-loop-t : goal.invariant-loop-t
invariant-loop-t l = (l.t ≤ l.few) × (all_from (done_by l.dones l.counts) l.t (l.few - l.t) ≡ all_done_of l.tasks l.dones l.counts)

abbrev pub decreases-loop-t : goal.decreases-loop-t
decreases-loop-t l = l.few - l.t
