use borrow.Author.Tests.{le-leb, lt-leb}
use Rattle.std.proofs.Common.{arith}
use Rattle.follow.proofs.is_over.Goals as goal

pub returns-then-most-steps : goal.returns-then-most-steps
returns-then-most-steps c = let a = c.args in rw (le-leb a.most a.steps (omega (arith, c.if-most-steps.true)))

pub returns-else-most-steps : goal.returns-else-most-steps
returns-else-most-steps c = let a = c.args in rw (lt-leb a.most a.steps (omega (arith, c.if-most-steps.false))) c.all_there.ensures
