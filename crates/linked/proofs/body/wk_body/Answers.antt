use mathlib.Core.Path.{refl}
use native.Mathlib.Omega.{arith}
use Rattle.entries.specs.Part.{part}
use Rattle.reader.specs.Laws.CallsCode.{Body-stands, body_stands}
use Rattle.linked.specs.Laws.CopyOf.{copy_refused, copy_no_task, copy_room, copy_all}
use Rattle.linked.proofs.body.wk_body.Goals as goal
use Rattle.linked.proofs.body.wk_body.Goals.{Else-l-task}

pub returns-in-Err : goal.returns-in-Err
returns-in-Err c = let a = c.args in
    rw (copy_refused a.bytes.now a.task a.out.now c.in-Err.refusal (rw (← c.in-Err.is) c.locate.ensures), ← c.number.ensures) record { answer_after = c.put.ensures; out_after = refl }

pub returns-then-l-task : goal.returns-then-l-task
returns-then-l-task c = let a = c.args in
    rw (copy_no_task a.bytes.now a.task a.out.now c.in-Ok.l (rw (← c.in-Ok.is) c.locate.ensures) c.if-l-task.true) record { answer_after = c.put-then-l-task.ensures; out_after = refl }

-- the body's place
stands : (c : Else-l-task) → Body-stands c.args.bytes.now c.args.task c.in-Ok.l
stands c = body_stands c.args.bytes.now c.in-Ok.l (rw (← c.in-Ok.is) c.locate.ensures) c.args.task c.if-l-task.false

pub offset_bounds-l-task : goal.offset_bounds-l-task
offset_bounds-l-task c = omega (arith, (stands (goal.at.offset_bounds-l-task c).Else-l-task).few)

pub bounds-l-task : goal.bounds-l-task
bounds-l-task c = (stands (goal.at.bounds-l-task c).Else-l-task).few

pub slice_bounds-part-count : goal.slice_bounds-part-count
slice_bounds-part-count c = (stands (goal.at.slice_bounds-part-count c).Else-l-task).start_stop

pub slice_bounds-part-start : goal.slice_bounds-part-start
slice_bounds-part-start c = (stands (goal.at.slice_bounds-part-start c).Else-l-task).start_stop

pub slice_bounds-part-end : goal.slice_bounds-part-end
slice_bounds-part-end c = (stands (goal.at.slice_bounds-part-end c).Else-l-task).within

pub returns-then-out-size : goal.returns-then-out-size
unfolding part
returns-then-out-size c = let a = c.args in
    rw (copy_room a.bytes.now a.task a.out.now c.in-Ok.l (rw (← c.in-Ok.is) c.locate.ensures) c.if-l-task.false c.if-out-size.true) record { answer_after = c.put-then-out-size.ensures; out_after = refl }

pub returns : goal.returns
unfolding part
returns c = let a = c.args in
    rw (copy_all a.bytes.now a.task a.out.now c.in-Ok.l (rw (← c.in-Ok.is) c.locate.ensures) c.if-l-task.false c.if-out-size.false) record { answer_after = c.put-2.ensures; out_after = c.put_bytes.ensures }
