use Rattle.replayer.specs.Memory.{agrees, performed}
use Rattle.codec.specs.Laws.Kind.{kind-writes}
use Rattle.codec.specs.Cell.{op_cell}
use Rattle.scheduler.specs.Laws.Lowest.{SteppedTo}
use Rattle.scheduler.proofs.Laws.Lowest.{found-next, found_none}
use Rattle.playback.specs.Laws.FinishCode.{Going, going_start, going_on, going_stopped, going_end}
use Rattle.pending.proofs.Laws.Next.{next-long}
use Rattle.scheduler.specs.Finish.{Play, finished_of}
use Rattle.scheduler.proofs.Laws.ColumnsCode.{columned_none}
use Rattle.scheduler.proofs.Laws.Columns.{columns_back, columns_shaped, columns_place, columns_finished}
use Rattle.scheduler.specs.Laws.Columns.{run_of}
use Rattle.replayer.specs.StepOf.{record_at}
use Rattle.pending.specs.declared.Run.{Run}
use Rattle.entries.specs.Reading.{numbered}
use Rattle.codec.specs.Number.{differs}
use mathlib.Core.Bool.{true, false, cond}
use lib.ListN.{get_or}
use Prim.Native.Nat.{◌+◌}
use native.Mathlib.Omega.{arith}
use mathlib.Core.Path.{◌≡◌, refl, sym, ap, ◌∙◌}
use Rattle.pending.proofs.Laws.Sound.{sound_facts}
use Rattle.playback.proofs.finish.finish.Goals as goal
use Rattle.playback.proofs.finish.finish.Goals.{After-lowest-going, After-record_at-at, After-result_of-then-not-taken, After-taken, At-loop-task, Else-not-taken, In-Some, Start}

-- the play at the start
abbrev start : Start → Play
start c = record { run = c.args.run; memory = c.args.memory.now; steps = 0 }

-- the run at the loop's head, and after a task is found
abbrev here : At-loop-task → Run
here c = let k = c.columns_of-c.result in let r = c.args.run in run_of r.tasks r.objects r.fields c.loop-task.places k.ends c.loop-task.dones k.counts

abbrev after : After-lowest-going → Run
after c = let k = c.columns_of-c.result in let r = c.args.run in run_of r.tasks r.objects r.fields c.lowest-going.new.places k.ends c.lowest-going.new.dones k.counts

found : (c : In-Some) →
    SteppedTo (here (goal.at.In-Some c).At-loop-task) c.args.bytes.now c.in-Some.field-0.task c.in-Some.field-0.op (after (goal.at.In-Some c).After-lowest-going)
found c = let l = c.lowest-going.ensures in found-next _ _ c.loop-task.invariant.0.sound _ (after (goal.at.In-Some c).After-lowest-going) _ l.value l.counts_after c.in-Some.is

-- whether the memory agrees with the access, and the memory after it
does : (c : After-taken) →
    let o = c.in-Some.field-0.op in
    let cell = op_cell c.args.run.fields o in
    let m = c.loop-task.memory in
    (c.taken.result ≡ agrees cell o m) × (c.taken.new.memory ≡ cond (agrees cell o m) (performed cell o m) m)
does c = (rw c.op_cell-cell.ensures at c.taken.ensures.value, rw c.op_cell-cell.ensures at c.taken.ensures.memory_after)

-- the play after its step
on : (c : Else-not-taken) →
    Going c.args.bytes.now (start (goal.at.Else-not-taken c).Start) (record { run = after (goal.at.Else-not-taken c).After-lowest-going; memory = c.taken.new.memory; steps = c.loop-task.steps + 1 })
on c =
    let f = found (goal.at.Else-not-taken c).In-Some in
    let w = does (goal.at.Else-not-taken c).After-taken in
    let a = sym w.0 ∙ c.if-not-taken.false in
    going_on _ _ _ c.loop-task.invariant.2 _ _ _ f.is a _ _ f.run (rw a at w.1)

-- where the next task stands then
standing : (c : In-Some) → get_or c.lowest-going.new.places c.in-Some.field-0.task 0 ≡ (found c).next
standing c =
    let r = c.args.run in
    let k = c.columns_of-c.result in
    let l = c.loop-task in
    let w = c.lowest-going.new in
    let f = found c in
    columns_place r.tasks r.objects r.fields w.places k.ends w.dones k.counts (here (goal.at.In-Some c).At-loop-task) _ _ (columns_shaped r.tasks r.objects r.fields l.places k.ends l.dones k.counts) f.is.few f.run

pub loop-task-init : goal.loop-task-init
loop-task-init c = let r = c.args.run in
    let p = c.requires.playing in
    let k = c.columns_of-c in
    (columned_none _ r _ k.ensures p.shaped p.sound, refl, rw (columns_back r k.result k.ensures p.shaped) (going_start _ _ p refl))

pub lowest-going-requires : goal.lowest-going-requires
lowest-going-requires c = c.loop-task.invariant.0

pub shape_of-memory-in_default : goal.shape_of-memory-in_default
shape_of-memory-in_default c = c.loop-task.invariant.1

pub returns-in_default : goal.returns-in_default
returns-in_default c = let i = c.loop-task.invariant in
    let r = c.args.run in
    let k = c.columns_of-c.result in
    let l = c.lowest-going in
    let n = found_none _ _ i.0.sound _ (after (goal.at.returns-in_default c).After-lowest-going) l.ensures.value l.ensures.counts_after c.in_default.is in
    let e = columns_finished r.tasks r.objects r.fields l.new.places k.ends l.new.dones k.counts in
    let g = going_end _ _ _ i.2 n.0 _ (c.all_done-done.ensures ∙ sym e ∙ ap finished_of {x = after (goal.at.returns-in_default c).After-lowest-going} n.1) in
    record { value = c.result_of.ensures ∙ g.0; memory_after = g.1 }

pub op_cell-cell-requires : goal.op_cell-cell-requires
op_cell-cell-requires c = omega (arith, (sound_facts _ _ c.requires.playing.sound).few_fields)

pub taken-requires : goal.taken-requires
taken-requires c = rw c.access_kind-write.ensures (kind-writes c.args.run.fields true)

pub offset_bounds-places-task : goal.offset_bounds-places-task
offset_bounds-places-task c = omega (arith, (found (goal.at.offset_bounds-places-task c).In-Some).is.few)

pub bounds-places-task : goal.bounds-places-task
bounds-places-task c = (found (goal.at.bounds-places-task c).In-Some).is.few

-- the read's record ends where its task stands
read_at : (c : After-record_at-at) →
    c.record_at-at.result ≡ record_at c.in-Some.field-0.op (get_or c.lowest-going.new.places c.in-Some.field-0.task 0)
read_at c = c.record_at-at.ensures

pub record_at-at-requires : goal.record_at-at-requires
record_at-at-requires c = omega (arith, standing (goal.at.record_at-at-requires c).In-Some, next-long _ _ _ _ _ (found (goal.at.record_at-at-requires c).In-Some).is.opens)

pub shape_of-memory-then-not-taken : goal.shape_of-memory-then-not-taken
shape_of-memory-then-not-taken c = c.memory-1.given ∙ c.loop-task.invariant.1

-- what a play that is stopped answers
stops : (c : After-result_of-then-not-taken) →
    let r = c.args.run in
    c.result_of-then-not-taken.result ≡ record { tasks = r.tasks; objects = r.objects; steps = c.loop-task.steps; finished = false; stopped = numbered differs c.record_at-at.result }
stops c = c.result_of-then-not-taken.ensures ∙ rw c.number.ensures

pub returns-then-not-taken : goal.returns-then-not-taken
returns-then-not-taken c = let f = found (goal.at.returns-then-not-taken c).In-Some in
    let w = does (goal.at.returns-then-not-taken c).After-taken in
    let n = sym w.0 ∙ c.if-not-taken.true in
    let e = ap (record_at c.in-Some.field-0.op) (standing (goal.at.returns-then-not-taken c).In-Some) in
    let g = going_stopped _ _ _ c.loop-task.invariant.2 _ _ _ f.is n _ (read_at (goal.at.returns-then-not-taken c).After-record_at-at ∙ e) in
    record { value = stops (goal.at.returns-then-not-taken c).After-result_of-then-not-taken ∙ g.0; memory_after = (rw n at w.1) ∙ g.1 }

pub overflow_add-steps : goal.overflow_add-steps
overflow_add-steps c = record { fits = omega (arith, (on (goal.at.overflow_add-steps c).Else-not-taken).steps, c.requires.run_bound) }

pub loop-task-smaller : goal.loop-task-smaller
loop-task-smaller c = omega (arith, (on (goal.at.loop-task-smaller c).Else-not-taken).steps, c.loop-task.invariant.2.steps)

pub loop-task-preserved : goal.loop-task-preserved
loop-task-preserved c = (c.lowest-going.ensures.columned, c.memory-1.given ∙ c.loop-task.invariant.1, on (goal.at.loop-task-preserved c).Else-not-taken)
