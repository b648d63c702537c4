use native.Mathlib.Omega.{arith}
use Rattle.pending.specs.FirstUnmet.{Ahead, Reached}
use Rattle.pending.proofs.Laws.FirstUnmet.{next-refused, holds-refused, ahead-start, next_open}
use Rattle.pending.proofs.next.look_at.Goals as goal
use Rattle.pending.proofs.next.look_at.Goals.{After-first_unmet-scan, In-Ok}

-- the group that was read, and how far the scan got in it
ahead : (c : In-Ok) →
    let a = c.args in
    Ahead a.limits a.bytes.now a.dones.now a.from a.end a.from c.in-Ok.found.at
ahead c = ahead-start _ _ _ _ _ _ c.entry_at.ensures _ c.in-Ok.is c.requires.0 c.requires.1

reached : (c : After-first_unmet-scan) →
    let a = c.args in
    Reached a.limits a.bytes.now a.dones.now a.from a.end c.first_unmet-scan.result c.in-Ok.found.at
reached c = c.first_unmet-scan.ensures _ _ _ (ahead (goal.at.After-first_unmet-scan c).In-Ok)

pub returns-in-Err : goal.returns-in-Err
returns-in-Err c = record {
  looks = next-refused _ _ _ _ _ _ c.entry_at.ensures _ c.in-Err.is;
  holds = holds-refused _ _ _ _ _ _ c.entry_at.ensures _ c.in-Err.is;
  judged_to = λ h. absurd (omega (arith, h));
}

pub first_unmet-scan-requires : goal.first_unmet-scan-requires
first_unmet-scan-requires c = record { limits = _; from = _; end = _; ahead = ahead (goal.at.first_unmet-scan-requires c).In-Ok }

pub returns-then-scan-at : goal.returns-then-scan-at
returns-then-scan-at c = record { looks = (reached (goal.at.returns-then-scan-at c).After-first_unmet-scan).held c.if-scan-at.true; holds = (reached (goal.at.returns-then-scan-at c).After-first_unmet-scan).holds; judged_to = λ h. (reached (goal.at.returns-then-scan-at c).After-first_unmet-scan).ahead }

pub returns : goal.returns
returns c = record {
  looks = next_open _ _ _ _ _ _ c.entry_at.ensures _ c.in-Ok.is _ (reached (goal.at.returns c).After-first_unmet-scan).ahead c.if-scan-at.false;
  holds = (reached (goal.at.returns c).After-first_unmet-scan).holds;
  judged_to = λ h. (reached (goal.at.returns c).After-first_unmet-scan).ahead;
}
