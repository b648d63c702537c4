use native.Mathlib.Omega.{arith}
use Rattle.tracker.specs.Class.{class_of}
use Rattle.codec.specs.Limit.{is_within}
use Rattle.codec.specs.Laws.Limit.{within_test, within-below, within_above}
use Rattle.transitions.proofs.table.class_of.Goals as goal

pub returns-in-6 : goal.returns-in-6
unfolding class_of is_within
returns-in-6 c = rw c.in-6.is

pub returns-in-1-to-3 : goal.returns-in-1-to-3
unfolding class_of
returns-in-1-to-3 c = simp (within_test 1 3 c.args.row (omega arith) (omega arith))

pub returns-in-4-to-5 : goal.returns-in-4-to-5
unfolding class_of
returns-in-4-to-5 c = let r = c.args.row in
    simp (within_above 1 3 r (omega arith), within_test 4 5 r (omega arith) (omega arith))

pub returns-in-7-to-10 : goal.returns-in-7-to-10
unfolding class_of
returns-in-7-to-10 c = let r = c.args.row in
    simp (within_above 1 3 r (omega arith), within_above 4 5 r (omega arith), within_above 6 6 r (omega arith), within_test 7 10 r (omega arith) (omega arith))

pub returns-in_default : goal.returns-in_default
unfolding class_of
returns-in_default c = let r = c.args.row in
    simp (within-below 1 3 r (omega arith), within-below 4 5 r (omega arith), within-below 6 6 r (omega arith), within-below 7 10 r (omega arith))

pub returns-in_default-2 : goal.returns-in_default-2
unfolding class_of
returns-in_default-2 c = let r = c.args.row in
    simp (within_above 1 3 r (omega arith), within_above 4 5 r (omega arith), within_above 6 6 r (omega arith), within_above 7 10 r (omega arith))
