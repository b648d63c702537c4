use Rattle.scheduler.specs.Finish.{left_over}
use Rattle.scheduler.specs.Laws.Columns.{run_of}
use Rattle.scheduler.specs.Laws.ColumnsCode.{Columned}
use Rattle.playability.specs.Laws.SettleCode.{Settling}
use Rattle.playability.proofs.settle.play.Given as goal

abbrev pub invariant-loop-places : goal.invariant-loop-places
invariant-loop-places l = Columned l.bytes l.start.tasks l.start.objects l.start.fields l.places l.ends l.dones l.counts l.scans l.ats × Settling l.bytes l.start (run_of l.start.tasks l.start.objects l.start.fields l.places l.ends l.dones l.counts) l.steps

abbrev pub decreases-loop-places : goal.decreases-loop-places
decreases-loop-places l = left_over (run_of l.start.tasks l.start.objects l.start.fields l.places l.ends l.dones l.counts)
