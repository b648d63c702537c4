use native.Mathlib.Omega.{arith}
use borrow.Author.Tests.{le-leb, lt-leb}
use Rattle.codec.specs.Limit.{max_accesses}
use Rattle.tracker.specs.Sound.{task_sound}
use Rattle.transitions.proofs.sound.task_sound.Goals as goal

pub returns-then-seen-shares : goal.returns-then-seen-shares
unfolding task_sound
returns-then-seen-shares c = simp (le-leb c.args.done max_accesses (omega arith), le-leb _ _ c.if-seen-shares.true)

pub returns-else-seen-shares : goal.returns-else-seen-shares
unfolding task_sound
returns-else-seen-shares c = simp (le-leb c.args.done max_accesses (omega arith), lt-leb _ _ c.if-seen-shares.false)
