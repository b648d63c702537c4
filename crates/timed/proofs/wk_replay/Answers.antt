use mathlib.Core.Path.{◌≡◌, ap, sym, ◌∙◌}
use Prim.Native.Nat.{◌-◌}
use native.Mathlib.Omega.{arith}
use lib.ListN.{length}
use Rattle.timed.specs.ReplayOf.{Replayed, access_next, steps_in, replay_of}
use Rattle.timed.specs.Laws.LoopsCode.{steps_over, steps-stop, steps-more, step-access, step_kept, step_turn}
use borrow.Author.Rules.{rules}
use Rattle.timed.proofs.wk_replay.Goals as goal
use Rattle.timed.proofs.wk_replay.Goals.{After-step-s}

pub loop-init : goal.loop-init
loop-init c = let e : length c.args.bytes.now - 0 ≡ length c.args.bytes.now = omega arith in (search rules, search rules, search rules, rw e)

-- the access of the step's answer
access-is : (c : After-step-s) →
    let l = c.loop in
    c.step-s.result.access ≡ access_next c.args.bytes.now (record { run = l.run; memory = l.memory; digest = l.digest })
access-is c = let l = c.loop in step-access _ (record { run = l.run; memory = l.memory; digest = l.digest }) _ _ _ c.ready-w.ensures c.lowest_ready-task.ensures c.step-s.ensures.value

pub returns-then-s-eq0 : goal.returns-then-s-eq0
returns-then-s-eq0 c = let l = c.loop in
    let b = c.args.bytes.now in
    let o = c.open-opened.ensures in
    let x : Replayed = record { run = l.run; memory = l.memory; digest = l.digest } in
    let k : access_next b x ≡ 0 = sym (access-is (goal.at.returns-then-s-eq0 c).After-step-s) ∙ c.if-s-eq0.true in
    let e : x ≡ replay_of b c.args.memory.now = sym (steps-stop b x _ l.counter c.loop-test.true k) ∙ (rw (o.value, o.memory_after) at l.invariant.3) in
    record { value = ap (λ (y : Replayed). y.digest) e; memory_after = step_kept b x _ _ _ c.ready-w.ensures c.lowest_ready-task.ensures c.step-s.ensures.memory_after k ∙ ap (λ (y : Replayed). y.memory) e }

pub overflow_step : goal.overflow_step
overflow_step c = omega (arith, c.loop-test.true, c.loop.invariant)

pub loop-preserved : goal.loop-preserved
loop-preserved c = let l = c.loop in
    let b = c.args.bytes.now in
    let x : Replayed = record { run = l.run; memory = l.memory; digest = l.digest } in
    let s = c.step-s in
    let k : access_next b x ≡ 0 → ⊥ = λ h. c.if-s-eq0.false (access-is (goal.at.loop-preserved c).After-step-s ∙ h) in (
      omega (arith, c.loop-test.true),
      l.invariant.1,
      search rules,
      ap (steps_in _ b) (step_turn b x c.ready-w.result c.lowest_ready-task.result s.result _ _ _ c.ready-w.ensures c.lowest_ready-task.ensures s.ensures.value s.ensures.memory_after c.step_word.ensures.0 c.mixed-digest.ensures) ∙ steps-more b x _ l.counter c.loop-test.true k ∙ l.invariant.3,
    )

pub returns : goal.returns
returns c = let l = c.loop in
    let x : Replayed = record { run = l.run; memory = l.memory; digest = l.digest } in
    let e : x ≡ replay_of c.args.bytes.now c.args.memory.now = sym (steps_over c.args.bytes.now x _ l.counter c.loop-test.false) ∙ (rw (c.open-opened.ensures.value, c.open-opened.ensures.memory_after) at l.invariant.3) in
    record { value = ap (λ (y : Replayed). y.digest) e; memory_after = ap (λ (y : Replayed). y.memory) e }
