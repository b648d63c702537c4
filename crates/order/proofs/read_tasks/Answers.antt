use Rattle.std.proofs.Common.{arith, sym, ◌∙◌, ◌≡◌, Some, None}
use Rattle.std.proofs.lemmas.Result.{err_from_is_err_and}
use Rattle.lines.specs.Lines.{lines_of}
use Rattle.order.specs.Laws.Order.{first-from}
use Rattle.order.specs.Laws.OrderCode.{taken-all, taken_room, taken_wrong, taken_more, task-number, task-none}
use Rattle.order.proofs.read_tasks.Goals as goal

pub returns-in_err-task : goal.returns-in_err-task
returns-in_err-task c = let l = c.loop-next in let n = c.in-Ok.ensures in
    let p = err_from_is_err_and c.from_residual.result c.from_residual.ensures.1 in
    let o : c.task_of.result ≡ None = grind arith in
    let w : c.in_err-task.field-0.0 ≡ record { 0 = c.in-Ok.next.number } = grind arith in
    rw (p.1, p.2, w) (
      omega (arith, first-from l.number (lines_of l.rest.now) _ _ n.found, l.invariant.positive),
      taken_wrong _ _ _ l.count l.tasks l.invariant.taken _ _ n.found (task-none _ (sym c.task_of.ensures ∙ o)),
    )

pub bounds-tasks-count : goal.bounds-tasks-count
bounds-tasks-count c = let l = c.loop-next in omega (arith, taken_room _ _ _ l.count l.tasks l.invariant.taken _ _ c.in-Ok.ensures.found, c.requires.text_in_bounds)

pub loop-next-preserved : goal.loop-next-preserved
loop-next-preserved c = let l = c.loop-next in let n = c.in-Ok.ensures in
    let o : c.task_of.result ≡ Some c.in_ok-task.task = grind arith in
    let t = task-number _ _ (sym c.task_of.ensures ∙ o) in
    record {
      counted = omega (arith, n.counted, l.invariant.counted);
      positive = omega arith;
      taken = taken_more _ _ _ l.count l.tasks l.invariant.taken _ _ n.found _ t.0 t.1;
    }

pub returns : goal.returns
returns c = let l = c.loop-next in let t = taken-all _ _ _ l.count l.tasks l.invariant.taken c.in_default.ensures.0 in (sym t.0, t.1, t.2)
