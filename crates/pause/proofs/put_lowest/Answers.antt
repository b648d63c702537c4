use mathlib.Core.Path.{◌≡◌, sym, ap, ◌∙◌}
use native.Mathlib.Omega.{arith}
use lib.ListN.{length, take}
use Prim.Native.Nat.{◌≤◌}
use lib.Seq.{length-take-le}
use Rattle.replay_lines.specs.Limits.{most_steps}
use Rattle.scheduler.proofs.Laws.Schedule.{schedule_short}
use Rattle.scheduler.specs.Schedule.{schedule_of}
use Rattle.transcript.specs.Laws.Answered.{Ordered}
use Rattle.transcript.proofs.Laws.Answered.{ordered}
use Rattle.pause.specs.Laws.Keeps.{within_sound, within_shaped, within-left}
use Rattle.pause.specs.Laws.Widen.{front_of}
use Rattle.follow.specs.Within.{run_within}
use Rattle.pause.proofs.put_lowest.Goals as goal
use Rattle.pause.proofs.put_lowest.Goals.{After-schedule-n, After-widen}

-- the order of the lowest ready task within the counts
ordered-so : (c : After-schedule-n) → let a = c.args in Ordered a.bytes.now (run_within a.counts.now a.start) c.schedule-n.new.out c.schedule-n.result
ordered-so c =
    let a = c.args in
    let w = c.requires.standing in
    ordered a.bytes.now (run_within a.counts.now a.start) c.blank_order-order.result _ _ (within_sound a.bytes.now a.counts.now (record { run = a.start; memory = a.memory.now; steps = 0 }) w) (within_shaped a.counts.now a.start w.small.playing.shaped)
    (omega (arith, c.blank_order-order.ensures.long, within-left a.bytes.now a.counts.now (record { run = a.start; memory = a.memory.now; steps = 0 }) w, c.requires.start_bound)) (rw c.within.ensures at c.schedule-n.ensures.value) (rw c.within.ensures at c.schedule-n.ensures.out_after)

-- it has few steps
short : (c : After-schedule-n) → let a = c.args in length (schedule_of a.bytes.now (run_within a.counts.now a.start)) ≤ most_steps
short c =
    let a = c.args in
    omega (arith, schedule_short a.bytes.now (run_within a.counts.now a.start), within-left a.bytes.now a.counts.now (record { run = a.start; memory = a.memory.now; steps = 0 }) c.requires.standing, c.requires.start_bound)

-- and is at the front of the wider buffer
widened : (c : After-widen) → let a = c.args in (c.schedule-n.result ≤ length c.widen.new.out) × (take c.schedule-n.result c.widen.new.out ≡ schedule_of a.bytes.now (run_within a.counts.now a.start))
widened c =
    let o = ordered-so (goal.at.After-widen c).After-schedule-n in
    let n : c.schedule-n.result ≡ length (schedule_of c.args.bytes.now (run_within c.args.counts.now c.args.start)) = sym (length-take-le _ _ o.within) ∙ ap length o.steps in
    front_of c.blank_tasks-steps.result _ c.widen.new.out _ n (rw o.steps at c.widen.ensures) (omega (arith, short (goal.at.After-widen c).After-schedule-n, c.blank_tasks-steps.ensures.long))

pub within-requires : goal.within-requires
within-requires c = (c.requires.standing.small.playing.shaped, omega (arith, c.requires.standing.few))

pub slice_bounds-schedule-end : goal.slice_bounds-schedule-end
slice_bounds-schedule-end c = c.blank_order-order.ensures.long

pub slice_bounds-order-end : goal.slice_bounds-order-end
slice_bounds-order-end c = (ordered-so (goal.at.slice_bounds-order-end c).After-schedule-n).within

pub slice_bounds-widen-end : goal.slice_bounds-widen-end
slice_bounds-widen-end c = sym (length-take-le _ _ (ordered-so (goal.at.slice_bounds-widen-end c).After-schedule-n).within)

pub slice_bounds-widen-end-2 : goal.slice_bounds-widen-end-2
slice_bounds-widen-end-2 c = c.blank_tasks-steps.ensures.long

pub widen-requires : goal.widen-requires
widen-requires c = omega (arith, ap length (ordered-so (goal.at.widen-requires c).After-schedule-n).steps, short (goal.at.widen-requires c).After-schedule-n, c.blank_tasks-steps.ensures.long)

pub slice_bounds-steps-end : goal.slice_bounds-steps-end
slice_bounds-steps-end c = (widened (goal.at.slice_bounds-steps-end c).After-widen).0

pub slice_bounds-put_told-end : goal.slice_bounds-put_told-end
slice_bounds-put_told-end c = sym (length-take-le _ _ (widened (goal.at.slice_bounds-put_told-end c).After-widen).0)

pub put_told-requires : goal.put_told-requires
put_told-requires c = record { standing = c.requires.standing; steps_len_bound = omega (arith, ap length (widened (goal.at.put_told-requires c).After-widen).1, short (goal.at.put_told-requires c).After-schedule-n); longest_text_in_bounds = c.requires.longest_text_in_bounds }

pub returns : goal.returns
returns c = rw (widened (goal.at.returns c).After-widen).1 at c.put_told.ensures
