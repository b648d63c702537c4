use mathlib.Core.Path.{◌∙◌}
use Rattle.pending.specs.declared.Run.{Run}
use Rattle.pending.specs.Laws.Moved.{Shaped}
use Rattle.scheduler.specs.Laws.Columns.{run_of}
use Rattle.scheduler.proofs.Laws.Columns.{columns_back}
use Rattle.scheduler.proofs.Laws.ColumnsCode.{columned_none}
use Rattle.scheduler.specs.Laws.Lowest.{SteppedTo}
use Rattle.scheduler.proofs.Laws.Lowest.{found-next, found_none}
use Rattle.playability.proofs.Laws.SettleCode.{settling_none, settling_more, settling_fewer, settling_fits, settling_ends}
use borrow.Author.Rules.{rules}
use Rattle.playability.proofs.settle.play.Goals as goal
use Rattle.playability.proofs.settle.play.Goals.{After-lowest-next, At-loop-places, In-Some, Start}

-- the run's array has 16 entries
shaped : (c : Start) → Shaped c.args.start
shaped c = search rules

-- the run at the loop's head, and after a task is found
abbrev here : At-loop-places → Run
here c = let k = c.columns_of-c.result in let r = c.args.start in run_of r.tasks r.objects r.fields c.loop-places.places k.ends c.loop-places.dones k.counts

abbrev after : After-lowest-next → Run
after c = let k = c.columns_of-c.result in let r = c.args.start in run_of r.tasks r.objects r.fields c.lowest-next.new.places k.ends c.lowest-next.new.dones k.counts

found : (c : In-Some) →
    SteppedTo (here (goal.at.In-Some c).At-loop-places) c.args.bytes.now c.in-Some.field-0.task c.in-Some.field-0.op (after (goal.at.In-Some c).After-lowest-next)
found c = let l = c.lowest-next.ensures in found-next _ _ c.loop-places.invariant.0.sound _ (after (goal.at.In-Some c).After-lowest-next) _ l.value l.counts_after c.in-Some.is

pub loop-places-init : goal.loop-places-init
loop-places-init c = let r = c.args.start in
    let k = c.columns_of-c in
    let s = shaped (goal.at.loop-places-init c).Start in
    (columned_none _ r _ k.ensures s c.requires.0, rw (columns_back r k.result k.ensures s) (settling_none _ _ s))

pub lowest-next-requires : goal.lowest-next-requires
lowest-next-requires c = c.loop-places.invariant.0

pub returns-in_default : goal.returns-in_default
returns-in_default c = let i = c.loop-places.invariant in
    let l = c.lowest-next in
    let n = found_none _ _ i.0.sound _ (after (goal.at.returns-in_default c).After-lowest-next) l.ensures.value l.ensures.counts_after c.in_default.is in
    let e = settling_ends _ _ _ _ i.1 n.0 in
    rw (c.run_of-run.ensures ∙ n.1 ∙ e.0, e.1)

pub overflow_add-steps : goal.overflow_add-steps
overflow_add-steps c = let i = c.loop-places.invariant in let f = found (goal.at.overflow_add-steps c).In-Some in record { fits = settling_fits _ _ _ _ i.1 i.0.sound _ _ _ f.is _ f.run c.requires.1 }

pub loop-places-smaller : goal.loop-places-smaller
loop-places-smaller c = let i = c.loop-places.invariant in let f = found (goal.at.loop-places-smaller c).In-Some in settling_fewer _ _ _ _ i.1 i.0.sound _ _ _ f.is _ f.run

pub loop-places-preserved : goal.loop-places-preserved
loop-places-preserved c = let i = c.loop-places.invariant in let f = found (goal.at.loop-places-preserved c).In-Some in (c.lowest-next.ensures.columned, settling_more _ _ _ _ i.1 i.0.sound _ _ _ f.is _ f.run)
