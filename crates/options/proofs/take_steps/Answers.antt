use Rattle.std.proofs.Common.{arith}
use Rattle.options.proofs.take_steps.Goals as goal

pub returns : goal.returns
returns c = (omega arith, omega (arith, c.if-words-at.false))
