use mathlib.Core.Path.{◌≡◌, refl, sym, ap, ◌∙◌}
use mathlib.Core.Bool.{true}
use Rattle.std.specs.Prelude.{is_some}
use Prim.Native.Nat.{◌<◌}
use native.Mathlib.Omega.{arith}
use lib.ListN.{length}
use Rattle.codec.specs.Limit.{max_tasks}
use Rattle.pending.specs.declared.Run.{Run}
use Rattle.pending.specs.Laws.Look.{OneTask}
use Rattle.replayer.specs.ReadyOf.{is_ready}
use Rattle.pending.specs.Run.{limits_of}
use Rattle.pending.specs.Laws.Sound.{Sound}
use Rattle.pending.proofs.Laws.Sound.{sound_facts}
use Rattle.scheduler.specs.Laws.Columns.{task_of, run_of}
use Rattle.scheduler.proofs.Laws.Columns.{columns_task, columns_one}
use Rattle.scheduler.proofs.Laws.ColumnsCode.{columned_noted, columned_moved, columned_on}
use Rattle.scheduler.specs.Laws.Lowest.{lowest_of, after_of}
use Rattle.scheduler.specs.Laws.Lowest.{IsNext}
use Rattle.scheduler.proofs.Laws.Lowest.{ready-left, lowest-next, lowest-none, visit_first, visit_all}
use Rattle.scheduler.specs.Laws.Visit.{Visited}
use Rattle.scheduler.proofs.Laws.Visit.{none_more, own_note}
use Rattle.scheduler.proofs.lowest.lowest.Goals as goal
use Rattle.scheduler.proofs.lowest.lowest.Goals.{After-visit-going, At-loop-t, In-Some, In-loop-t}

-- the run that the columns represent, and its soundness
abbrev run : At-loop-t → Run
run c = let a = c.args in run_of a.tasks a.objects a.fields c.loop-t.places a.ends.now c.loop-t.dones a.counts.now

sound : (c : In-loop-t) → Sound (run (goal.at.In-loop-t c).At-loop-t) (length c.args.bytes.now)
sound c = sound_facts (run (goal.at.In-loop-t c).At-loop-t) (length c.args.bytes.now) c.loop-t.invariant.0.sound

few : (c : In-loop-t) → c.loop-t.t < max_tasks
few c = omega (arith, c.loop-t-test.true, (sound c).few_tasks)

one : (c : In-loop-t) →
    let a = c.args in
    let l = c.loop-t in
    OneTask (run (goal.at.In-loop-t c).At-loop-t) l.t (task_of l.places a.ends.now l.dones a.counts.now l.t) (limits_of (run (goal.at.In-loop-t c).At-loop-t) l.t) l.dones
one c = let a = c.args in
    let l = c.loop-t in
    columns_one a.tasks a.objects a.fields l.places a.ends.now l.dones a.counts.now l.invariant.0.dones_all l.t (few c)

-- what `visit` found, and the next step if the task may go
visited : (c : After-visit-going) →
    Visited (run (goal.at.After-visit-going c).At-loop-t) c.args.bytes.now c.loop-t.t c.visit-going.new.scans c.visit-going.new.ats c.visit-going.result
visited c = c.visit-going.ensures (run (goal.at.After-visit-going c).At-loop-t) (one (goal.at.After-visit-going c).In-loop-t) c.loop-t.invariant.0.noted

ready : (c : In-Some) → is_ready (run (goal.at.In-Some c).At-loop-t) c.args.bytes.now c.loop-t.t ≡ true
ready c = rw c.in-Some.is at (visited (goal.at.In-Some c).After-visit-going).ready

next : (c : In-Some) → IsNext (run (goal.at.In-Some c).At-loop-t) c.args.bytes.now c.loop-t.t c.in-Some.open.op c.in-Some.open.next
next c = visit_first _ _ c.loop-t.invariant.0.sound _ _ _ c.loop-t-test.true (ready c) ((visited (goal.at.In-Some c).After-visit-going).opens _ c.in-Some.is) c.loop-t.invariant.2

pub loop-t-init : goal.loop-t-init
loop-t-init c = (c.requires, omega arith, (λ u h. absurd (omega arith)), refl)

pub offset_bounds-places-t : goal.offset_bounds-places-t
offset_bounds-places-t c = omega (arith, few (goal.at.offset_bounds-places-t c).In-loop-t)

pub bounds-places-t : goal.bounds-places-t
bounds-places-t c = few (goal.at.bounds-places-t c).In-loop-t

pub offset_bounds-ends-t : goal.offset_bounds-ends-t
offset_bounds-ends-t c = omega (arith, few (goal.at.offset_bounds-ends-t c).In-loop-t)

pub bounds-ends-t : goal.bounds-ends-t
bounds-ends-t c = few (goal.at.bounds-ends-t c).In-loop-t

pub offset_bounds-dones-t : goal.offset_bounds-dones-t
offset_bounds-dones-t c = omega (arith, few (goal.at.offset_bounds-dones-t c).In-loop-t)

pub bounds-dones-t : goal.bounds-dones-t
bounds-dones-t c = few (goal.at.bounds-dones-t c).In-loop-t

pub offset_bounds-counts-t : goal.offset_bounds-counts-t
offset_bounds-counts-t c = omega (arith, few (goal.at.offset_bounds-counts-t c).In-loop-t)

pub bounds-counts-t : goal.bounds-counts-t
bounds-counts-t c = few (goal.at.bounds-counts-t c).In-loop-t

pub visit-going-requires : goal.visit-going-requires
visit-going-requires c = record { tasks_le_max_tasks = ((sound (goal.at.visit-going-requires c).In-loop-t).few_tasks, few (goal.at.visit-going-requires c).In-loop-t, rw (columns_task _ _ _ _ _ _ _ _ (few (goal.at.visit-going-requires c).In-loop-t)) at ((sound (goal.at.visit-going-requires c).In-loop-t).task _ c.loop-t-test.true).end); note = own_note _ _ _ _ _ _ _ _ (one (goal.at.visit-going-requires c).In-loop-t) c.loop-t.invariant.0.noted }

pub offset_bounds-places-t-in-Some : goal.offset_bounds-places-t-in-Some
offset_bounds-places-t-in-Some c = omega (arith, few (goal.at.offset_bounds-places-t-in-Some c).In-loop-t)

pub bounds-places-t-in-Some : goal.bounds-places-t-in-Some
bounds-places-t-in-Some c = few (goal.at.bounds-places-t-in-Some c).In-loop-t

pub overflow_add-dones : goal.overflow_add-dones
overflow_add-dones c = let h = rw (columns_task _ _ _ _ _ _ _ _ (few (goal.at.overflow_add-dones c).In-loop-t)) at (ready-left (run (goal.at.overflow_add-dones c).At-loop-t) c.args.bytes.now _ (ready (goal.at.overflow_add-dones c).In-Some)) in
    omega (arith, h)

pub offset_bounds-dones-t-in-Some : goal.offset_bounds-dones-t-in-Some
offset_bounds-dones-t-in-Some c = omega (arith, few (goal.at.offset_bounds-dones-t-in-Some c).In-loop-t)

pub bounds-dones-t-in-Some : goal.bounds-dones-t-in-Some
bounds-dones-t-in-Some c = few (goal.at.bounds-dones-t-in-Some c).In-loop-t

pub returns-in-Some : goal.returns-in-Some
returns-in-Some c = let a = c.args in
    let i = c.loop-t.invariant in
    let n = next (goal.at.returns-in-Some c).In-Some in
    let w = columned_noted i.0 (visited (goal.at.returns-in-Some c).After-visit-going).noted in
    let l = lowest-next _ _ _ _ _ n in
    record { value = sym l.0 ∙ ap (λ (r : Run). lowest_of r a.bytes.now) i.3; counts_after = columned_moved w n ∙ sym l.1 ∙ ap (λ (r : Run). after_of r a.bytes.now) i.3; columned = columned_on w n }

pub returns : goal.returns
returns c = let a = c.args in
    let i = c.loop-t.invariant in
    let l = lowest-none _ _ (visit_all _ _ i.0.sound _ c.loop-t-test.false i.2) in
    record { value = sym l.0 ∙ ap (λ (r : Run). lowest_of r a.bytes.now) i.3; counts_after = sym l.1 ∙ ap (λ (r : Run). after_of r a.bytes.now) i.3; columned = i.0 }

pub loop-t-preserved : goal.loop-t-preserved
loop-t-preserved c = let i = c.loop-t.invariant in
    let v = visited (goal.at.loop-t-preserved c).After-visit-going in
    (columned_noted i.0 v.noted, omega (arith, c.loop-t-test.true), none_more _ _ _ i.2 (v.ready ∙ ap is_some c.in_default.is), i.3)
