use Prim.Native.Nat.{◌-◌}
use lib.ListN.{length}
use Rattle.scheduler.specs.Laws.Columns.{run_of}
use Rattle.scheduler.specs.Laws.ColumnsCode.{Columned}
use Rattle.scheduler.specs.Laws.ScheduleCode.{Writing}
use Rattle.scheduler.proofs.schedule.schedule.Given as goal

abbrev pub invariant-loop-steps : goal.invariant-loop-steps
invariant-loop-steps l = Columned l.bytes l.run.tasks l.run.objects l.run.fields l.places l.ends l.dones l.counts l.scans l.ats
    × Writing l.bytes l.initial.out l.run l.out (run_of l.run.tasks l.run.objects l.run.fields l.places l.ends l.dones l.counts) l.steps

abbrev pub decreases-loop-steps : goal.decreases-loop-steps
decreases-loop-steps l = length l.out - l.steps
