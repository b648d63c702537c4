use Rattle.std.proofs.Common.{arith}
use Rattle.std.proofs.lemmas.Bool.Decides.{nat_tests}
use Rattle.lines.specs.Words.{is_blank}
use Rattle.lines.proofs.words.is_blank.Goals as goal

pub returns-in-32 : goal.returns-in-32
unfolding is_blank
returns-in-32 c = grind (arith, nat_tests)

pub returns-in_default : goal.returns-in_default
unfolding is_blank
returns-in_default c = grind (arith, nat_tests, c.in_default)
