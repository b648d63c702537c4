use mathlib.Core.Path.{refl, sym, ap, ◌∙◌}
use native.Mathlib.Omega.{arith}
use lib.ListN.{get_or}
use Rattle.entries.specs.declared.Checked.{Checked}
use Rattle.scheduler.specs.Finish.{Play}
use Rattle.follow.specs.Laws.Follow.{following_start, follow_ends, follow_over, follow_on, follow_stops, follow_room, next-steps, next_goes}
use Rattle.follow.proofs.put_followed.Goals as goal

pub loop-step-init : goal.loop-step-init
loop-step-init c = let a = c.args in (omega arith, refl, refl, omega arith, refl, following_start a.bytes.now a.most a.counts.now (record { run = a.start; memory = a.memory.now; steps = 0 }) a.steps.now a.out.now)

pub returns-then-is_over : goal.returns-then-is_over
returns-then-is_over c = let a = c.args in let l = c.loop-step in rw l.invariant.4 (follow_over a.bytes.now a.most a.counts.now (record { run = a.start; memory = a.memory.now; steps = 0 }) a.steps.now a.out.now (record { run = l.p.run; memory = l.memory; steps = l.p.steps }) l.step-index l.out l.p.at l.invariant.5 c.loop-step-test.true (sym c.is_over.ensures ∙ c.if-is_over.true))

pub put_next-p-requires : goal.put_next-p-requires
put_next-p-requires c = let a = c.args in let l = c.loop-step in (omega (arith, l.invariant.3, c.loop-step-test.true, c.requires.counts_len_bound.1), omega (arith, c.requires.counts_len_bound.0), omega (arith, follow_room a.bytes.now a.most a.counts.now (record { run = a.start; memory = a.memory.now; steps = 0 }) a.steps.now a.out.now (record { run = l.p.run; memory = l.memory; steps = l.p.steps }) l.step-index l.out l.p.at l.invariant.5 c.loop-step-test.true (sym c.is_over.ensures ∙ c.if-is_over.false), c.requires.steps_in_bounds, l.invariant.2))

pub returns-then-p-ne0 : goal.returns-then-p-ne0
returns-then-p-ne0 c = let a = c.args in let l = c.loop-step in let s = c.put_next-p.ensures in rw (s.play, s.stopped) (follow_stops a.bytes.now a.most a.counts.now (record { run = a.start; memory = a.memory.now; steps = 0 }) a.steps.now a.out.now (record { run = l.p.run; memory = l.memory; steps = l.p.steps }) l.step-index l.out l.p.at l.invariant.5 c.loop-step-test.true (sym c.is_over.ensures ∙ c.if-is_over.false) (λ k. c.if-p-ne0.true (ap (λ (q : Checked). q.number) s.stopped ∙ k)) _ _ s.lines)

pub loop-step-preserved : goal.loop-step-preserved
loop-step-preserved c = let a = c.args in let l = c.loop-step in let s = c.put_next-p.ensures in let z = sym (ap (λ (q : Checked). q.number) s.stopped) ∙ c.if-p-ne0.false in (omega arith, omega arith, omega arith, omega (arith, next-steps a.bytes.now a.counts.now (record { run = l.p.run; memory = l.memory; steps = l.p.steps }) (get_or a.steps.now l.step-index 0), ap (λ (y : Play). y.steps) s.play), s.stopped ∙ next_goes a.bytes.now a.counts.now (record { run = l.p.run; memory = l.memory; steps = l.p.steps }) (get_or a.steps.now l.step-index 0) z, rw s.play (follow_on a.bytes.now a.most a.counts.now (record { run = a.start; memory = a.memory.now; steps = 0 }) a.steps.now a.out.now (record { run = l.p.run; memory = l.memory; steps = l.p.steps }) l.step-index l.out l.p.at l.invariant.5 c.loop-step-test.true (sym c.is_over.ensures ∙ c.if-is_over.false) z _ _ s.lines))

pub returns : goal.returns
returns c = let a = c.args in let l = c.loop-step in rw l.invariant.4 (follow_ends a.bytes.now a.most a.counts.now (record { run = a.start; memory = a.memory.now; steps = 0 }) a.steps.now a.out.now (record { run = l.p.run; memory = l.memory; steps = l.p.steps }) l.step-index l.out l.p.at l.invariant.5 c.loop-step-test.false)
