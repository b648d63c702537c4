use Rattle.linked.specs.Laws.Answers.{bool_bit}
use Rattle.linked.proofs.calls.wk_replay_to_end.Goals as goal

pub returns : goal.returns
returns c = let e = c.replay_to_end-r.ensures in
    record { memory_after = e.memory_after; answer_after = rw (bool_bit, e.value) at c.put.ensures }
