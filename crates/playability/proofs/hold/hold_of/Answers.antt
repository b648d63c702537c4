use mathlib.Core.Path.{◌≡◌, refl, sym, ◌∙◌}
use Prim.Native.Nat.{◌-◌}
use native.Mathlib.Omega.{arith}
use borrow.Author.Tests.{lt-ltb, le-ltb}
use Rattle.playability.proofs.Laws.Held.{hold_on, hold_found, hold_end}
use Rattle.playability.proofs.hold.hold_of.Goals as goal

pub loop-t-init : goal.loop-t-init
loop-t-init c = let r = c.args.run in let e : r.tasks - 0 ≡ r.tasks = omega arith in (omega arith, rw e)

pub offset_bounds-run-t : goal.offset_bounds-run-t
offset_bounds-run-t c = omega (arith, c.requires.few_tasks)

pub bounds-run-t : goal.bounds-run-t
bounds-run-t c = omega (arith, c.requires.few_tasks)

pub offset_of-offset-requires : goal.offset_of-offset-requires
offset_of-offset-requires c = let s = c.requires in
    let l = c.loop-t in
    (s.few_tasks, (s.task l.t (omega arith)).end)

pub returns-then-x : goal.returns-then-x
returns-then-x c = let r = c.args.run in
    let l = c.loop-t in
    let o = c.offset_of-offset.ensures r (record { task = refl; limits = refl; counts = sym c.dones_of-dones.ensures }) in
    rw o (sym (hold_found _ r r.tasks l.t (omega arith) (lt-ltb _ _ c.if-x.true)) ∙ l.invariant.1)

pub loop-t-preserved : goal.loop-t-preserved
loop-t-preserved c = let r = c.args.run in
    let l = c.loop-t in
    (omega arith, sym (hold_on _ r r.tasks l.t (omega arith) (le-ltb _ _ c.if-x.false)) ∙ l.invariant.1)

pub returns : goal.returns
returns c = let r = c.args.run in
    let l = c.loop-t in
    sym (hold_end _ r r.tasks l.t (omega arith)) ∙ l.invariant.1
