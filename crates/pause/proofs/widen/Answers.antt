use mathlib.Core.Path.{refl, sym, ap, ◌∙◌}
use native.Mathlib.Omega.{arith}
use lib.ListN.{length-set}
use lib.Seq.{take_all}
use Rattle.codec.specs.Store.{store}
use Rattle.pause.specs.Laws.Widen.{widen_start, widen_on}
use Rattle.pause.proofs.widen.Goals as goal

pub loop-i-init : goal.loop-i-init
loop-i-init c = (omega arith, refl, sym (widen_start c.args.out.now c.args.steps.now))

pub overflow_cast-out : goal.overflow_cast-out
overflow_cast-out c = omega (arith, c.shared_slice_known-1.given c.loop-i.i)

pub loop-i-preserved : goal.loop-i-preserved
loop-i-preserved c = let a = c.args in let l = c.loop-i in (omega arith, simp length-set l.invariant.1, widen_on a.out.now l.out a.steps.now l.i l.invariant.2 (omega arith) (omega (arith, c.requires)))

pub returns : goal.returns
returns c = let a = c.args in let l = c.loop-i in l.invariant.2 ∙ ap (store a.out.now 0) (take_all l.i a.steps.now (omega arith))
