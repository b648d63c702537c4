use mathlib.Core.Path.{◌≡◌, sym, ◌∙◌}
use native.Mathlib.Omega.{arith}
use Prim.Native.Nat.{◌-◌, ◌<◌}
use borrow.Author.Tests.{lt-ltb, le-ltb}
use Rattle.codec.specs.Limit.{max_tasks}
use Rattle.pending.proofs.Laws.All.{all-on, all_off, all_end}
use Rattle.scheduler.specs.Laws.Columns.{done_by}
use Rattle.scheduler.specs.Finish.{tasks_in}
use Rattle.scheduler.proofs.Laws.Finish.{tasks-few}
use Rattle.playback.proofs.finish.all_done.Goals as goal
use Rattle.playback.proofs.finish.all_done.Goals.{In-loop-t}

below : (c : In-loop-t) → c.loop-t.t < max_tasks
below c = omega (arith, c.loop-t-test.true, c.min-few.ensures, tasks-few c.args.tasks)

pub loop-t-init : goal.loop-t-init
loop-t-init c = let o : tasks_in c.args.tasks - 0 ≡ tasks_in c.args.tasks = omega arith in (omega arith, rw (c.min-few.ensures, o))

pub offset_bounds-dones-t : goal.offset_bounds-dones-t
offset_bounds-dones-t c = omega (arith, below (goal.at.offset_bounds-dones-t c).In-loop-t)

pub bounds-dones-t : goal.bounds-dones-t
bounds-dones-t c = below (goal.at.bounds-dones-t c).In-loop-t

pub offset_bounds-counts-t : goal.offset_bounds-counts-t
offset_bounds-counts-t c = omega (arith, below (goal.at.offset_bounds-counts-t c).In-loop-t)

pub bounds-counts-t : goal.bounds-counts-t
bounds-counts-t c = below (goal.at.bounds-counts-t c).In-loop-t

pub returns-then-dones-t : goal.returns-then-dones-t
returns-then-dones-t c = let a = c.args in
    let l = c.loop-t in
    sym (all_off (done_by a.dones.now a.counts.now) l.t c.min-few.result c.loop-t-test.true (rw (lt-ltb _ _ c.if-dones-t.true))) ∙ l.invariant.1

pub loop-t-preserved : goal.loop-t-preserved
loop-t-preserved c = let a = c.args in
    let l = c.loop-t in (
      omega arith,
      sym (all-on (done_by a.dones.now a.counts.now) l.t c.min-few.result c.loop-t-test.true (rw (le-ltb _ _ c.if-dones-t.false))) ∙ l.invariant.1,
    )

pub returns : goal.returns
returns c = let a = c.args in
    let l = c.loop-t in
    sym (all_end (done_by a.dones.now a.counts.now) l.t c.min-few.result c.loop-t-test.false) ∙ l.invariant.1
