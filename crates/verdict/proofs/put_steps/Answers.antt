use mathlib.Core.Path.{◌≡◌, refl}
use native.Mathlib.Omega.{arith}
use lib.ListN.{length}
use lib.Seq.{take-length}
use Rattle.text.specs.Laws.Appended.{joined, nothing}
use Rattle.verdict.specs.Laws.Lines.{steps-none, steps_on, steps_room}
use Rattle.verdict.proofs.put_steps.Goals as goal

pub loop-task-init : goal.loop-task-init
loop-task-init c = (omega arith, refl, rw steps-none (nothing _ _))

pub put_field-end-requires : goal.put_field-end-requires
put_field-end-requires c = let l = c.loop-task in
    omega (arith, l.invariant.2.behind, steps_room c.args.order.now l.task-index (omega (arith, c.loop-task-test.true)))

pub loop-task-preserved : goal.loop-task-preserved
loop-task-preserved c = let l = c.loop-task in
    (omega arith, omega arith, rw (steps_on c.args.order.now l.task-index (omega (arith, c.loop-task-test.true))) (joined l.invariant.2 c.put_field-end.ensures))

pub returns : goal.returns
returns c = let l = c.loop-task in
    let e : l.task-index ≡ length c.args.order.now = omega arith in
    rw (e, take-length) at l.invariant.2
