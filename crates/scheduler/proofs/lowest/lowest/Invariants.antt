use mathlib.Core.Path.{◌≡◌}
use mathlib.Core.Bool.{false}
use Prim.Native.Nat.{ℕ, ◌-◌, ◌≤◌, ◌<◌}
use Rattle.replayer.specs.ReadyOf.{is_ready}
use Rattle.scheduler.specs.Laws.Columns.{run_of}
use Rattle.scheduler.specs.Laws.ColumnsCode.{Columned}
use Rattle.scheduler.proofs.lowest.lowest.Given as goal

abbrev pub invariant-loop-t : goal.invariant-loop-t
invariant-loop-t l = Columned l.bytes l.tasks l.objects l.fields l.places l.ends l.dones l.counts l.scans l.ats × (l.t ≤ l.tasks) × ((u : ℕ) → u < l.t → is_ready (run_of l.tasks l.objects l.fields l.places l.ends l.dones l.counts) l.bytes u ≡ false)
    × (run_of l.tasks l.objects l.fields l.places l.ends l.dones l.counts ≡ run_of l.tasks l.objects l.fields l.initial.places l.ends l.initial.dones l.counts)

abbrev pub decreases-loop-t : goal.decreases-loop-t
decreases-loop-t l = l.tasks - l.t
