use Rattle.playability.proofs.Laws.Held.{offset-held, offset-none}
use Rattle.playability.proofs.hold.offset_of.Goals as goal

pub returns-then-k : goal.returns-then-k
returns-then-k c = λ r w. offset-held r _ _ _ _ _ w _ _ c.look_at-k.ensures.holds c.if-k.true

pub returns : goal.returns
returns c = λ r w. offset-none r _ _ _ _ _ w _ _ c.look_at-k.ensures.holds c.if-k.false
