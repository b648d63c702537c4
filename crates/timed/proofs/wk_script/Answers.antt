use mathlib.Core.Path.{◌≡◌, refl, ap}
use Prim.Native.Nat.{◌/◌}
use native.Mathlib.Omega.{arith}
use lib.ListN.{length}
use Rattle.timed.specs.ScriptOf.{Scripted, accesses_to, script_of}
use Rattle.timed.specs.Laws.LoopsCode.{access_turn}
use borrow.Author.Rules.{rules}
use Rattle.timed.proofs.wk_script.Goals as goal

pub loop-i-init : goal.loop-i-init
unfolding accesses_to
loop-i-init c = (search rules, search rules, search rules, search rules, refl, omega arith)

pub offset_bounds-script-at-in-loop-i-2 : goal.offset_bounds-script-at-in-loop-i-2
offset_bounds-script-at-in-loop-i-2 c = omega (arith, c.loop-i-test.true, c.loop-i.invariant.0, c.well_formed)

pub offset_bounds-script-at-in-loop-i-3 : goal.offset_bounds-script-at-in-loop-i-3
offset_bounds-script-at-in-loop-i-3 c = omega (arith, c.loop-i-test.true, c.loop-i.invariant.0, c.well_formed)

pub offset_bounds-script-at-in-loop-i-4 : goal.offset_bounds-script-at-in-loop-i-4
offset_bounds-script-at-in-loop-i-4 c = omega (arith, c.loop-i-test.true, c.loop-i.invariant.0, c.well_formed)

pub overflow_step-i : goal.overflow_step-i
overflow_step-i c = omega (arith, c.loop-i-test.true, c.loop-i.invariant.0, c.loop-i.invariant.1)

pub loop-i-preserved : goal.loop-i-preserved
loop-i-preserved c = let l = c.loop-i in
    let a = c.access-a in (
      omega (arith, c.loop-i-test.true),
      l.invariant.1,
      search rules,
      search rules,
      access_turn _ l.i _ (record { state = l.state; memory = l.memory; out = l.out; digest = l.digest }) _ _ _ _ _ _ _ _ l.invariant.4 refl refl refl a.ensures.value a.ensures.memory_after a.ensures.out_after c.access_word.ensures.0 c.mixed-digest.ensures,
      omega (arith, c.loop-i-test.true),
    )

pub returns : goal.returns
returns c = let l = c.loop-i in
    let a = c.args in
    let o = c.opened-o.ensures in
    let n : l.i ≡ length a.script.now / 5 = omega (arith, c.loop-i-test.false) in
    let e : ◌≡◌ {A = Scripted} (record { state = l.state; memory = l.memory; out = l.out; digest = l.digest }) (script_of a.tasks a.objects a.fields a.owners.now a.starts.now a.script.now a.memory.now a.out.now) =
    rw (n, o.value, o.memory_after, o.out_after) at l.invariant.4 in
    record { value = ap (λ (x : Scripted). x.digest) e; memory_after = ap (λ (x : Scripted). x.memory) e; out_after = ap (λ (x : Scripted). x.out) e }
