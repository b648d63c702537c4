use mathlib.Core.Path.{sym, ap, ◌∙◌}
use native.Mathlib.Omega.{arith}
use lib.ListN.{length}
use lib.Seq.{length-take-le}
use Rattle.replay_lines.proofs.Laws.LinesBound.{refusal_few}
use Rattle.text.specs.Laws.Appended.{nothing}
use Rattle.verdict.specs.Laws.Answered.{Played, played, Yes, yes_played, no_played, says_refused}
use Rattle.verdict.specs.Laws.Lines.{no_few}
use Rattle.verdict.specs.Laws.TextBound.{text_bound}
use Rattle.playability.proofs.Laws.PlayableCode.{settled_sound}
use Rattle.verdict.proofs.put_answer.Goals as goal
use Rattle.verdict.proofs.put_answer.Goals.{After-playable_settled-a, Then-a-eq0}

pub put_refusal-text-requires : goal.put_refusal-text-requires
put_refusal-text-requires c = let r = c.in-Err.refusal in omega (arith, refusal_few c.number.result r.offset)

pub returns-in-Err : goal.returns-in-Err
returns-in-Err c =
    let w = says_refused c.args.bytes.now (omega arith) _ (sym c.in-Err.is ∙ c.settle.ensures) in
    record { appended = rw (w.0, ← c.number.ensures) c.put_refusal-text.ensures; appended_2 = rw w.1 (nothing c.args.why.now 0) }

-- what the call answered
played_so : (c : After-playable_settled-a) → Played c.args.bytes.now c.in-Ok.s c.playable_settled-a.result c.playable_settled-a.new.out
played_so c =
    played c.args.bytes.now (omega arith) (λ i. omega (arith, c.shared_slice_known-1.given i)) c.blank_order-order.result (omega (arith, c.blank_order-order.ensures.long))
    _ (sym c.in-Ok.is ∙ c.settle.ensures) _ _ c.playable_settled-a.ensures.value c.playable_settled-a.ensures.out_after

says_yes : (c : Then-a-eq0) → Yes c.args.bytes.now c.playable_settled-a.result c.playable_settled-a.new.out
says_yes c = yes_played (played_so (goal.at.Then-a-eq0 c).After-playable_settled-a) c.if-a-eq0.true

pub slice_bounds-playable_settled-end : goal.slice_bounds-playable_settled-end
slice_bounds-playable_settled-end c = c.blank_order-order.ensures.long

pub playable_settled-a-requires : goal.playable_settled-a-requires
playable_settled-a-requires c = sym c.in-Ok.is ∙ c.settle.ensures

pub slice_bounds-order-end : goal.slice_bounds-order-end
slice_bounds-order-end c = (says_yes (goal.at.slice_bounds-order-end c).Then-a-eq0).within

pub slice_bounds-put_yes-end : goal.slice_bounds-put_yes-end
slice_bounds-put_yes-end c = sym (length-take-le _ _ (says_yes (goal.at.slice_bounds-put_yes-end c).Then-a-eq0).within)

pub put_yes-text-requires : goal.put_yes-text-requires
put_yes-text-requires c = let t = text_bound c.args.bytes.now (λ i. omega (arith, c.shared_slice_known-1.given i)) in
    omega (arith, t, ap length (says_yes (goal.at.put_yes-text-requires c).Then-a-eq0).text)

pub returns-then-a-eq0 : goal.returns-then-a-eq0
returns-then-a-eq0 c = let y = says_yes (goal.at.returns-then-a-eq0 c).Then-a-eq0 in record { appended = rw y.text c.put_yes-text.ensures; appended_2 = rw y.reasons (nothing c.args.why.now 0) }

pub put_no-text-requires : goal.put_no-text-requires
put_no-text-requires c = let a = c.playable_settled-a.result in omega (arith, no_few a.task a.offset)

pub put_waits-reasons-requires : goal.put_waits-reasons-requires
put_waits-reasons-requires c = (settled_sound _ _ (sym c.in-Ok.is ∙ c.settle.ensures), omega arith)

pub returns : goal.returns
returns c = let n = no_played (played_so (goal.at.returns c).After-playable_settled-a) c.if-a-eq0.false in
    record { appended = rw n.0 c.put_no-text.ensures; appended_2 = rw n.1 c.put_waits-reasons.ensures }
