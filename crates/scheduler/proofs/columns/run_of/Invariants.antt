use Prim.Native.Nat.{◌-◌}
use Rattle.codec.specs.Limit.{max_tasks}
use Rattle.pending.specs.Laws.Each.{Filled}
use Rattle.scheduler.specs.Laws.Columns.{task_of}
use Rattle.scheduler.proofs.columns.run_of.Given as goal

abbrev pub invariant-loop-t : goal.invariant-loop-t
invariant-loop-t l = Filled (task_of l.places l.ends l.dones l.counts) max_tasks l.runs l.t

abbrev pub decreases-loop-t : goal.decreases-loop-t
decreases-loop-t l = max_tasks - l.t
