use Rattle.lines.specs.Words.{bare_of}
use Rattle.lines.proofs.words.bare.Goals as goal

pub returns : goal.returns
unfolding bare_of
returns c = c.before-2.ensures
