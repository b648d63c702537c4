use mathlib.Core.Path.{◌≡◌, sym, ◌∙◌}
use Prim.Native.Nat.{◌-◌}
use native.Mathlib.Omega.{arith}
use lib.ListN.{length}
use borrow.Author.Tests.{lt-ltb, le-ltb, eqb-true, eqb-false}
use Rattle.pending.proofs.Laws.All.{all-on, all_off, all_end}
use Rattle.follow.specs.Within.{is_there, all_there}
use Rattle.follow.proofs.within.all_there.Goals as goal

pub returns-then-is_empty : goal.returns-then-is_empty
unfolding all_there
returns-then-is_empty c = rw (le-ltb 0 (length c.args.counts.now) (omega (arith, eqb-true _ _ (sym c.if-is_empty.ensures))))

pub loop-t-init : goal.loop-t-init
loop-t-init c = let o : length c.args.counts.now - 0 ≡ length c.args.counts.now = omega arith in (omega arith, rw o)

pub returns-then-not-is_there : goal.returns-then-not-is_there
unfolding all_there
returns-then-not-is_there c = let a = c.args in
    let l = c.loop-t in
    rw (lt-ltb 0 (length a.counts.now) (omega (arith, c.loop-t-test.true)))
    (sym (all_off (is_there a.counts.now a.run) l.t (length a.counts.now) c.loop-t-test.true (sym c.is_there.ensures ∙ c.if-not-is_there.true)) ∙ l.invariant.1)

pub loop-t-preserved : goal.loop-t-preserved
loop-t-preserved c = let a = c.args in
    let l = c.loop-t in
    (omega arith, sym (all-on (is_there a.counts.now a.run) l.t (length a.counts.now) c.loop-t-test.true (sym c.is_there.ensures ∙ c.if-not-is_there.false)) ∙ l.invariant.1)

pub returns : goal.returns
unfolding all_there
returns c = let a = c.args in
    let l = c.loop-t in
    rw (lt-ltb 0 (length a.counts.now) (omega (arith, eqb-false _ _ (sym c.if-is_empty.ensures))))
    (sym (all_end (is_there a.counts.now a.run) l.t (length a.counts.now) c.loop-t-test.false) ∙ l.invariant.1)
