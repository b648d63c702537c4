use mathlib.Core.Path.{ap, ◌∙◌}
use native.Mathlib.Omega.{arith}
use lib.ListN.{length}
use Rattle.text.specs.Laws.Appended.{joined}
use Rattle.pause.specs.Laws.Ending.{finished-is, ending_done, ending_paused, done_room}
use Rattle.pause.proofs.put_ending.Goals as goal

pub put_end-end-requires : goal.put_end-end-requires
put_end-end-requires c = let a = c.args in let f = finished-is a.bytes.now a.run c.requires.sound c.finished-f.result c.finished-f.ensures in omega (arith, done_room a.bytes.now (record { run = a.run; memory = a.memory.now; steps = a.steps }) (f ∙ c.if-f.true), c.requires.steps_in_bounds)

pub put_values-requires : goal.put_values-requires
put_values-requires c = let a = c.args in let f = finished-is a.bytes.now a.run c.requires.sound c.finished-f.result c.finished-f.ensures in omega (arith, c.put_end-end.ensures.behind, done_room a.bytes.now (record { run = a.run; memory = a.memory.now; steps = a.steps }) (f ∙ c.if-f.true), c.requires.steps_in_bounds)

pub returns-then-f : goal.returns-then-f
returns-then-f c = let a = c.args in let f = finished-is a.bytes.now a.run c.requires.sound c.finished-f.result c.finished-f.ensures in rw (ending_done a.bytes.now (record { run = a.run; memory = a.memory.now; steps = a.steps }) (f ∙ c.if-f.true)) (joined c.put_end-end.ensures c.put_values.ensures)

pub put_block-requires : goal.put_block-requires
put_block-requires c = let a = c.args in let f = finished-is a.bytes.now a.run c.requires.sound c.finished-f.result c.finished-f.ensures in let q = ending_paused a.bytes.now (record { run = a.run; memory = a.memory.now; steps = a.steps }) (f ∙ c.if-f.false) in (omega (arith, c.requires.sound.few_tasks), rw c.ready-w.ensures (omega (arith, ap length q, c.requires.steps_in_bounds)))

pub returns : goal.returns
returns c = let a = c.args in let f = finished-is a.bytes.now a.run c.requires.sound c.finished-f.result c.finished-f.ensures in rw (ending_paused a.bytes.now (record { run = a.run; memory = a.memory.now; steps = a.steps }) (f ∙ c.if-f.false)) (rw c.ready-w.ensures at c.put_block.ensures)
