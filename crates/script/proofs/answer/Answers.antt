use mathlib.Core.Path.{sym, ◌∙◌}
use native.Mathlib.Omega.{arith}
use lib.Seq.{length-take-le}
use Rattle.script.specs.Laws.AnswerCode.{short-out, short-message, too_long, answer_so}
use Rattle.std.proofs.Common.{refl, Ok, Err}
use Rattle.script.specs.Laws.MessageCode.{message-none}
use Rattle.script.proofs.answer.Goals as goal

pub returns-then-out-lt65536 : goal.returns-then-out-lt65536
returns-then-out-lt65536 c = short-out _ _ _ c.if-out-lt65536.true

pub returns-then-message-lt128 : goal.returns-then-message-lt128
returns-then-message-lt128 c = short-message _ _ _ c.if-out-lt65536.false c.if-message-lt128.true

pub returns-then-text-gt1048576 : goal.returns-then-text-gt1048576
returns-then-text-gt1048576 c = let p = c.put_bytes-told.ensures in too_long _ _ _ c.if-out-lt65536.false c.if-message-lt128.false _ _ (omega (arith, p.behind)) c.if-text-gt1048576.true p

pub slice_bounds-record-end : goal.slice_bounds-record-end
slice_bounds-record-end c = omega (arith, c.longest_recording-room.ensures, c.if-out-lt65536.false)

pub slice_bounds-record-end-2 : goal.slice_bounds-record-end-2
slice_bounds-record-end-2 c = sym (length-take-le _ _ (omega (arith, c.longest_recording-room.ensures, c.if-out-lt65536.false)))

pub record-requires : goal.record-requires
record-requires c = (c.if-text-gt1048576.false, length-take-le _ _ (omega (arith, c.longest_recording-room.ensures, c.if-out-lt65536.false)) ∙ c.longest_recording-room.ensures)

pub returns-in-Ok : goal.returns-in-Ok
returns-in-Ok c = let m = c.longest_recording-room in
    answer_so _ _ _ c.if-out-lt65536.false c.if-message-lt128.false _ _ (omega arith) m.result m.ensures (Ok c.in-Ok.written) _ c.if-text-gt1048576.false c.in-Ok.ensures (message-none c.args.text.now 0 0 _ refl)

pub returns-in-Err : goal.returns-in-Err
returns-in-Err c = let m = c.longest_recording-room in let p = c.put_message.ensures in
    answer_so _ _ _ c.if-out-lt65536.false c.if-message-lt128.false _ _ p.upper_bound m.result m.ensures (Err c.in-Err.stop) _ c.if-text-gt1048576.false c.in-Err.ensures p.appended
