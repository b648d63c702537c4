use Rattle.follow.specs.Within.{is_there}
use Rattle.follow.proofs.within.is_there.Goals as goal

pub returns-in_default : goal.returns-in_default
unfolding is_there
returns-in_default c = rw (← c.in_default.ensures.lookup.0)

pub returns : goal.returns
unfolding is_there
returns c = rw (← c.in-Some.ensures.lookup.0, c.in-Some.ensures.lookup.3.1 0)
