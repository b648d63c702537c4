use Rattle.std.proofs.Common.{arith, sym, ◌≡◌}
use Rattle.lines.specs.Lines.{lines_from}
use Rattle.order.specs.Order.{order_lines}
use Rattle.order.specs.Laws.Order.{order-few}
use Rattle.order.specs.Laws.OrderCode.{order-behind, order-whole, order-none}
use Rattle.order.proofs.read_order.Goals.{in_default-via-in-Ok+else-is_yes, in_default-via-in_default}
use Rattle.order.proofs.read_order.Goals as goal

pub read_tasks-requires-clause-text_in_bounds : goal.read_tasks-requires-clause-text_in_bounds
read_tasks-requires-clause-text_in_bounds c = let t = c.args.text.now in
    rw (order-behind t _ _ c.in-Ok.ensures.found (sym c.if-is_yes.ensures)) (omega (arith, order-few t, c.requires))

pub read_tasks-requires-in_default-clause-text_in_bounds : goal.read_tasks-requires-in_default-clause-text_in_bounds
read_tasks-requires-in_default-clause-text_in_bounds c = let t = c.args.text.now in
    let e : lines_from 1 t ≡ order_lines t = elim c.in_default.branch [
      | in_default-via-in-Ok+else-is_yes w ↦ order-whole t _ _ w.in-Ok.ensures.found (sym w.if-is_yes.ensures)
      | in_default-via-in_default w ↦ order-none t w.in_default.ensures.0
    ] in
    rw e (omega (arith, order-few t, c.requires))

pub returns-in-Ok : goal.returns-in-Ok
returns-in-Ok c = rw (← order-behind c.args.text.now _ _ c.in-Ok.ensures.found (sym c.if-is_yes.ensures)) c.read_tasks.ensures

pub returns-in_default : goal.returns-in_default
returns-in_default c = let t = c.args.text.now in
    let e : lines_from 1 t ≡ order_lines t = elim c.in_default.branch [
      | in_default-via-in-Ok+else-is_yes w ↦ order-whole t _ _ w.in-Ok.ensures.found (sym w.if-is_yes.ensures)
      | in_default-via-in_default w ↦ order-none t w.in_default.ensures.0
    ] in
    rw (← e) c.read_tasks-in_default.ensures
