use borrow.Author.Tests.{eq-eqb, ne_eqb, lt-ltb, le-ltb}
use Rattle.tracker.specs.Sound.{last_sound}
use Rattle.transitions.proofs.sound.last_sound.Goals as goal

pub returns-then-last-eq0 : goal.returns-then-last-eq0
unfolding last_sound
returns-then-last-eq0 c = simp (eq-eqb _ _ c.if-last-eq0.true)

pub returns-then-tasks-last : goal.returns-then-tasks-last
unfolding last_sound
returns-then-tasks-last c = simp (ne_eqb _ _ c.if-last-eq0.false, le-ltb _ _ c.if-tasks-last.true)

pub returns : goal.returns
unfolding last_sound
returns c = simp (ne_eqb _ _ c.if-last-eq0.false, lt-ltb _ _ c.if-tasks-last.false)
