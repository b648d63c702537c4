use native.Mathlib.Omega.{arith}
use Rattle.text.specs.Laws.Appended.{same_room}
use Rattle.script.specs.Laws.MessageCode.{number_room, number_behind, message-none, message-line}
use Rattle.script.proofs.message.put_message.Goals as goal

pub returns-then-stop-eq0-clause-appended : goal.returns-then-stop-eq0-clause-appended
returns-then-stop-eq0-clause-appended c = message-none _ _ _ _ c.if-stop-eq0.true

pub put_number-end-requires : goal.put_number-end-requires
put_number-end-requires c = let p = c.put_bytes-at.ensures in number_room _ c.put_bytes-at.result (omega (arith, p.behind, same_room p))

pub put_reason-requires : goal.put_reason-requires
put_reason-requires c = let p = c.put_bytes-at.ensures in
    let q = c.put_number-end.ensures in
    (omega (arith, p.behind, number_behind _ q), omega (arith, same_room p, same_room q), omega arith)

pub returns-clause-appended : goal.returns-clause-appended
returns-clause-appended c = message-line _ _ c.if-stop-eq0.false c.put_bytes-at.ensures c.put_number-end.ensures c.put_reason.ensures.appended
