use mathlib.Core.Path.{refl, sym, ◌∙◌}
use native.Mathlib.Omega.{arith}
use Rattle.reader.specs.Laws.OneByOne.{below_on, below_off, below_end}
use Rattle.opening.proofs.owners_below.Goals as goal

pub loop-owner-init : goal.loop-owner-init
loop-owner-init c = (omega arith, refl)

pub returns-then-tasks-owner : goal.returns-then-tasks-owner
returns-then-tasks-owner c = let a = c.args in let l = c.loop-owner in
    sym (below_off a.tasks l.owner-index a.owners.now c.loop-owner-test.true c.if-tasks-owner.true) ∙ l.invariant.1

pub loop-owner-preserved : goal.loop-owner-preserved
loop-owner-preserved c = let a = c.args in let l = c.loop-owner in
    (omega arith, sym (below_on a.tasks l.owner-index a.owners.now c.loop-owner-test.true c.if-tasks-owner.false) ∙ l.invariant.1)

pub returns : goal.returns
returns c = let a = c.args in let l = c.loop-owner in
    sym (below_end a.tasks l.owner-index a.owners.now c.loop-owner-test.false) ∙ l.invariant.1
