use mathlib.Core.Path.{sym, ap, ◌∙◌}
use native.Mathlib.Omega.{arith}
use lib.ListN.{length}
use Rattle.follow.specs.Follow.{Followed}
use Rattle.follow.specs.Laws.Follow.{next_rests, next_tries}
use Rattle.follow.proofs.put_next.Goals as goal

pub returns-then-is_there : goal.returns-then-is_there
returns-then-is_there c = let a = c.args in next_rests a.bytes.now a.counts.now (record { run = a.run; memory = a.memory.now; steps = a.steps }) a.task (sym c.is_there.ensures ∙ c.if-is_there.true) a.out.now a.at

pub put_tried-requires : goal.put_tried-requires
put_tried-requires c = let a = c.args in (omega (arith, c.requires.0), omega (arith, ap (λ (f : Followed). length f.text) (next_tries a.bytes.now a.counts.now (record { run = a.run; memory = a.memory.now; steps = a.steps }) a.task (sym c.is_there.ensures ∙ c.if-is_there.false)), c.requires.2))

pub returns : goal.returns
returns c = let a = c.args in rw (next_tries a.bytes.now a.counts.now (record { run = a.run; memory = a.memory.now; steps = a.steps }) a.task (sym c.is_there.ensures ∙ c.if-is_there.false)) c.put_tried.ensures
