use Rattle.scheduler.specs.Laws.Visit.{Resumed}
use Rattle.scheduler.proofs.Laws.Visit.{resumed_first, resumed_ahead, visit_none, visit_looks, noted_set, noted_scan}
use Rattle.pending.specs.FirstUnmet.{Reached}
use Rattle.entries.specs.declared.Limits.{Limits}
use lib.ListN.{get_or}
use Rattle.scheduler.proofs.visit.visit.Goals as goal
use Rattle.scheduler.proofs.visit.visit.Goals.{then-ahead+else-scan-noted, else-ahead, After-first_unmet-scan, After-shared_slice_known-1, After-struct_known-1, Joined-ahead, Start}

abbrev limits : Start → Limits
limits c = let a = c.args in record { tasks = a.tasks; objects = a.objects; fields = a.fields; own = a.own }

-- how far the entry of a note has been tested
resumed : (c : After-first_unmet-scan) →
    let s = (goal.at.After-first_unmet-scan c).After-struct_known-1 in
    Reached (limits (goal.at.After-struct_known-1 s).Start) s.args.bytes.now s.args.dones.now s.args.x.place s.args.x.end c.first_unmet-scan.result (get_or s.args.ats.now s.args.own 0)
resumed c = c.first_unmet-scan.ensures _ _ _ (c.requires.note c.if-ahead.true)

-- from where the records are read
resuming : (c : Joined-ahead) →
    let s = (goal.at.Joined-ahead c).After-shared_slice_known-1 in
    Resumed (limits (goal.at.After-shared_slice_known-1 s).Start) s.args.bytes.now s.args.dones.now s.args.x c.if-ahead.from
resuming c = elim c.if-ahead.branch [
  | then-ahead+else-scan-noted w ↦ rw w.from-is (resumed_ahead _ _ _ _ _ _ (w.first_unmet-scan.ensures _ _ _ (c.requires.note w.if-ahead.true)).ahead)
  | else-ahead w ↦ rw w.from-is (resumed_first _ _ _ _)
]

pub returns-then-x : goal.returns-then-x
returns-then-x c = λ r w n. visit_none _ _ _ _ _ _ _ _ w n c.if-x.true

pub first_unmet-scan-requires : goal.first_unmet-scan-requires
first_unmet-scan-requires c = record { limits = _; from = _; end = _; ahead = c.requires.note c.if-ahead.true }

pub returns-then-scan-noted : goal.returns-then-scan-noted
returns-then-scan-noted c = let j = resumed (goal.at.returns-then-scan-noted c).After-first_unmet-scan in
    λ r w n. visit_looks _ _ _ _ _ _ _ _ w n c.if-x.false _ (j.held c.if-scan-noted.true) _ _ (noted_scan _ _ _ _ _ _ _ _ w n c.requires.tasks_le_max_tasks.1 _ j.ahead)

pub returns : goal.returns
returns c = let s = resuming (goal.at.returns c).Joined-ahead in
    let k = c.look_at-k.ensures in
    rw c.unwrap_or.ensures
    (λ r w n. visit_looks _ _ _ _ _ _ _ _ w n c.if-x.false _ (s.looks _ k.looks) _ _ (noted_set _ _ _ _ _ _ _ _ w n c.requires.tasks_le_max_tasks.1 _ _ (s.note _ _ k.judged_to)))
