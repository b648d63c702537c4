use borrow.Author.Rules.{rules}
use mathlib.Core.Path.{◌≡◌, sym, ◌∙◌}
use native.Mathlib.Omega.{arith}
use lib.ListN.{length}
use Rattle.pending.specs.declared.Run.{Run}
use Rattle.pending.specs.Laws.Moved.{Shaped}
use Rattle.scheduler.specs.Laws.Columns.{run_of}
use Rattle.scheduler.proofs.Laws.Columns.{columns_back}
use Rattle.scheduler.proofs.Laws.ColumnsCode.{columned_none}
use Rattle.scheduler.specs.Laws.Lowest.{SteppedTo}
use Rattle.scheduler.proofs.Laws.Lowest.{found-next, found_none}
use Rattle.scheduler.proofs.Laws.ScheduleCode.{wrote_none, writing_none, writing_more, writing_stops, writing_full}
use Rattle.scheduler.proofs.schedule.schedule.Goals as goal
use Rattle.scheduler.proofs.schedule.schedule.Goals.{After-lowest-next, At-loop-steps, In-Some, Start}

-- the run's array has 16 entries
shaped : (c : Start) → Shaped c.args.run
shaped c = search rules

-- the run at the loop's head, and after a task is found
abbrev here : At-loop-steps → Run
here c = let k = c.columns_of-c.result in let r = c.args.run in run_of r.tasks r.objects r.fields c.loop-steps.places k.ends c.loop-steps.dones k.counts

abbrev after : After-lowest-next → Run
after c = let k = c.columns_of-c.result in let r = c.args.run in run_of r.tasks r.objects r.fields c.lowest-next.new.places k.ends c.lowest-next.new.dones k.counts

found : (c : In-Some) →
    SteppedTo (here (goal.at.In-Some c).At-loop-steps) c.args.bytes.now c.in-Some.chosen.task c.in-Some.chosen.op (after (goal.at.In-Some c).After-lowest-next)
found c = let l = c.lowest-next.ensures in found-next _ _ c.loop-steps.invariant.0.sound _ (after (goal.at.In-Some c).After-lowest-next) _ l.value l.counts_after c.in-Some.is

pub returns-then-not-sound : goal.returns-then-not-sound
returns-then-not-sound c =
    let both = wrote_none _ _ _ (sym c.sound.ensures ∙ c.if-not-sound.true) in
    record { value = both.0; out_after = both.1 }

pub loop-steps-init : goal.loop-steps-init
loop-steps-init c = let r = c.args.run in
    let k = c.columns_of-c in
    let s = shaped (goal.at.loop-steps-init c).Start in
    (columned_none _ r _ k.ensures s (sym c.sound.ensures ∙ c.if-not-sound.false), rw (columns_back r k.result k.ensures s) (writing_none _ _ _))

pub returns-in_default : goal.returns-in_default
returns-in_default c =
    let both = let i = c.loop-steps.invariant in
    let l = c.lowest-next.ensures in
    writing_stops _ _ _ _ _ _ i.1 (found_none _ _ i.0.sound _ (after (goal.at.returns-in_default c).After-lowest-next) l.value l.counts_after c.in_default.is).0 in
    record { value = both.0; out_after = both.1 }

pub overflow_cast-out : goal.overflow_cast-out
overflow_cast-out c = omega (arith, (found (goal.at.overflow_cast-out c).In-Some).is.few)

pub loop-steps-preserved : goal.loop-steps-preserved
loop-steps-preserved c = let f = found (goal.at.loop-steps-preserved c).In-Some in (c.lowest-next.ensures.columned, writing_more _ _ _ _ _ _ c.loop-steps.invariant.1 _ _ _ (omega (arith, c.loop-steps-test.true, c.loop-steps.invariant.1.long)) f.is _ f.run)

pub returns : goal.returns
returns c =
    let w = c.loop-steps.invariant.1 in
    let e : length c.loop-steps.out ≡ c.loop-steps.steps = omega (arith, c.loop-steps-test.false, w.long, w.within) in
    let both = writing_full _ _ _ _ _ _ w (omega (arith, e)) in
    record { value = e ∙ both.0; out_after = both.1 }
