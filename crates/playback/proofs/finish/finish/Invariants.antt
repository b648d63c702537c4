use Rattle.playback.specs.Laws.FinishCode.{Going}
use Rattle.scheduler.specs.Finish.{left_over}
use Rattle.scheduler.specs.Laws.ColumnsCode.{Columned}
use Rattle.scheduler.specs.Laws.Columns.{run_of}
use lib.ListN.{length}
use mathlib.Core.Path.{◌≡◌}
use Rattle.playback.proofs.finish.finish.Given as goal

abbrev pub invariant-loop-task : goal.invariant-loop-task
invariant-loop-task l = Columned l.bytes l.run.tasks l.run.objects l.run.fields l.places l.ends l.dones l.counts l.scans l.ats × (length l.memory ≡ length l.initial.memory)
    × Going l.bytes (record { run = l.run; memory = l.initial.memory; steps = 0 }) (record { run = run_of l.run.tasks l.run.objects l.run.fields l.places l.ends l.dones l.counts; memory = l.memory; steps = l.steps })

abbrev pub decreases-loop-task : goal.decreases-loop-task
decreases-loop-task l = left_over (run_of l.run.tasks l.run.objects l.run.fields l.places l.ends l.dones l.counts)
