use native.Mathlib.Omega.{arith}
use Rattle.text.specs.Laws.Appended.{same_room}
use Rattle.text.specs.Laws.Decimal.{decimal_short, field-length}
use Rattle.script.specs.Laws.MessageCode.{reason_malformed, reason_refused}
use Rattle.script.proofs.message.put_reason.Goals as goal

pub returns-then-stop-eq0-clause-appended : goal.returns-then-stop-eq0-clause-appended
returns-then-stop-eq0-clause-appended c = reason_malformed _ _ c.if-stop-eq0.true c.put_bytes-end.ensures c.put_fault.ensures.appended

pub put_field-requires : goal.put_field-requires
put_field-requires c = let n = c.args.stop.number in
    let p = c.put_bytes-end-2.ensures in
    omega (arith, field-length n 10, decimal_short n, p.behind, same_room p)

pub returns : goal.returns
returns c = let n = c.args.stop.number in
    let p = c.put_bytes-end-2.ensures in
    let q = c.put_field.ensures in
    record { appended = reason_refused _ _ c.if-stop-eq0.false p q; upper_bound = omega (arith, field-length n 10, decimal_short n, p.behind, q.behind) }
