use mathlib.Core.Path.{refl}
use native.Mathlib.Omega.{arith}
use Rattle.opening.specs.Laws.OpenCode.{open_refused, open_accepted, open_given}
use Rattle.opening.proofs.open_by.Goals as goal

pub returns-then-number-ne0 : goal.returns-then-number-ne0
returns-then-number-ne0 c = let a = c.args in let o = open_refused a.least a.fields a.tasks a.objects a.owners.now a.starts.now a.memory.now a.out.now c.open_number-number.result c.open_number-number.ensures c.if-number-ne0.true in rw (o, c.blank-state.ensures) record { value = refl; memory_after = refl; out_after = refl }

pub set_memory-requires : goal.set_memory-requires
set_memory-requires c = let a = c.args in let g = open_given a.least a.fields a.tasks a.objects a.owners.now a.starts.now a.memory.now a.out.now c.open_number-number.result c.open_number-number.ensures c.if-number-ne0.false in omega (arith, g.start_each, g.memory_each)

pub overflow_cast-tasks : goal.overflow_cast-tasks
overflow_cast-tasks c = let a = c.args in let g = open_given a.least a.fields a.tasks a.objects a.owners.now a.starts.now a.memory.now a.out.now c.open_number-number.result c.open_number-number.ensures c.if-number-ne0.false in omega (arith, g.few_tasks)

pub put_head-requires : goal.put_head-requires
put_head-requires c = let a = c.args in let g = open_given a.least a.fields a.tasks a.objects a.owners.now a.starts.now a.memory.now a.out.now c.open_number-number.result c.open_number-number.ensures c.if-number-ne0.false in (g.few_fields, rw g.owner_each g.start_each, omega (arith, g.few_objects, g.owner_each), rw g.owner_each (omega (arith, g.room)))

pub opened_state-state-requires : goal.opened_state-state-requires
opened_state-state-requires c = let a = c.args in let g = open_given a.least a.fields a.tasks a.objects a.owners.now a.starts.now a.memory.now a.out.now c.open_number-number.result c.open_number-number.ensures c.if-number-ne0.false in (g.few_tasks, omega (arith, g.few_objects, g.owner_each), g.few_fields)

pub head_length-requires : goal.head_length-requires
head_length-requires c = let a = c.args in let g = open_given a.least a.fields a.tasks a.objects a.owners.now a.starts.now a.memory.now a.out.now c.open_number-number.result c.open_number-number.ensures c.if-number-ne0.false in (omega (arith, g.few_fields), omega (arith, g.few_objects))

pub returns : goal.returns
returns c = let a = c.args in let g = open_given a.least a.fields a.tasks a.objects a.owners.now a.starts.now a.memory.now a.out.now c.open_number-number.result c.open_number-number.ensures c.if-number-ne0.false in let o = open_accepted a.least a.fields a.tasks a.objects a.owners.now a.starts.now a.memory.now a.out.now c.open_number-number.result c.open_number-number.ensures c.if-number-ne0.false in rw (o, c.head_length.ensures, c.opened_state-state.ensures, g.owner_each) record { value = refl; memory_after = c.set_memory.ensures; out_after = c.put_head.ensures }
