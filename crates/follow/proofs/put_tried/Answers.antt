use mathlib.Core.Path.{sym, ap, ◌∙◌}
use native.Mathlib.Omega.{arith}
use lib.ListN.{length}
use Rattle.follow.specs.Laws.Follow.{taken_room, passed_room, tried_taken, tried_passed, tried_stops}
use Rattle.follow.proofs.put_tried.Goals as goal

pub put_step-end-requires : goal.put_step-end-requires
put_step-end-requires c = let a = c.args in let s = c.step-s in omega (arith, ap length (taken_room a.bytes.now (record { run = a.run; memory = a.memory.now; steps = a.steps }) a.task s.result s.ensures.value _ s.ensures.memory_after a.out.now a.at c.if-s-eq0.true), c.requires.1)

pub returns-then-s-eq0 : goal.returns-then-s-eq0
returns-then-s-eq0 c = let a = c.args in let s = c.step-s in tried_taken a.bytes.now (record { run = a.run; memory = a.memory.now; steps = a.steps }) a.task s.result s.ensures.value _ s.ensures.memory_after a.out.now a.at c.if-s-eq0.true _ _ c.put_step-end.ensures

pub put_turned-end-requires : goal.put_turned-end-requires
put_turned-end-requires c = let a = c.args in let s = c.step-s in omega (arith, ap length (passed_room a.bytes.now (record { run = a.run; memory = a.memory.now; steps = a.steps }) a.task s.result s.ensures.value _ s.ensures.memory_after a.out.now a.at c.if-s-eq0.false (sym c.is_passed.ensures ∙ c.if-is_passed.true)), c.requires.1)

pub returns-then-is_passed : goal.returns-then-is_passed
returns-then-is_passed c = let a = c.args in let s = c.step-s in tried_passed a.bytes.now (record { run = a.run; memory = a.memory.now; steps = a.steps }) a.task s.result s.ensures.value _ s.ensures.memory_after a.out.now a.at c.if-s-eq0.false (sym c.is_passed.ensures ∙ c.if-is_passed.true) _ _ c.put_turned-end.ensures

pub returns : goal.returns
returns c = let a = c.args in let s = c.step-s in tried_stops a.bytes.now (record { run = a.run; memory = a.memory.now; steps = a.steps }) a.task s.result s.ensures.value _ s.ensures.memory_after a.out.now a.at c.if-s-eq0.false (sym c.is_passed.ensures ∙ c.if-is_passed.false)
