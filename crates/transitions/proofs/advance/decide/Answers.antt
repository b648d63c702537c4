use Rattle.transitions.specs.Laws.ByRow.{plan_decided}
use Rattle.transitions.proofs.advance.decide.Goals as goal

pub returns : goal.returns
returns c = let a = c.args in
    plan_decided a.counters a.locality a.task a.write _ _ _ c.row_of-row.ensures c.holder_of-holder.ensures c.by_row.ensures
