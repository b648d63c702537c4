use mathlib.Core.Path.{refl, sym}
use native.Mathlib.Omega.{arith}
use Rattle.text.specs.Laws.Appended.{joined, nothing}
use Rattle.waits.proofs.Laws.Waits.{waits_none, waits_on, waits_short}
use Rattle.waits.proofs.put_waits.Goals as goal

pub loop-t-init : goal.loop-t-init
loop-t-init c = (omega arith, refl, rw (waits_none _ _) (nothing _ 0))

pub put_wait-at-requires : goal.put_wait-at-requires
put_wait-at-requires c = let a = c.args in let l = c.loop-t in let s = c.requires.0 in (s.few_tasks, (s.task l.t (omega arith)).end, omega (arith, s.few_tasks, l.invariant.2.behind, waits_short a.bytes.now a.run l.t))

pub loop-t-preserved : goal.loop-t-preserved
loop-t-preserved c = let a = c.args in let l = c.loop-t in (omega arith, omega arith, rw (waits_on a.bytes.now a.run l.t) (joined l.invariant.2 (c.put_wait-at.ensures a.run (record { task = refl; limits = refl; counts = sym c.dones_of-dones.ensures }))))
