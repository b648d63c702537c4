use Prim.Native.Nat.{◌+◌, ◌≤◌}
use native.Mathlib.Omega.{arith}
use lib.ListN.{length}
use Rattle.pending.proofs.Laws.FirstUnmet.{ahead_turn}
use Rattle.text.specs.Laws.Appended.{nothing}
use Rattle.waits.proofs.Laws.Waits.{wait_done, wait_open, wait_held}
use Rattle.waits.proofs.put_wait.Goals as goal
use Rattle.waits.proofs.put_wait.Goals.{Else-k-place}

-- the ordering is within the bytes
room : (c : Else-k-place) → c.look_at-k.result.scan + 8 ≤ length c.args.bytes.now
room c = (ahead_turn _ _ _ _ _ _ _ (c.look_at-k.ensures.judged_to (omega arith)) c.if-k-place.false).room

pub returns-then-x : goal.returns-then-x
returns-then-x c = λ r w. rw (wait_done c.args.bytes.now r _ _ _ _ w (omega arith)) (nothing c.args.out.now c.args.at)

pub returns-then-k-place : goal.returns-then-k-place
returns-then-k-place c = λ r w. rw (wait_open c.args.bytes.now r _ _ _ _ w (omega arith) _ _ c.look_at-k.ensures.holds c.if-k-place.true) (nothing c.args.out.now c.args.at)

pub source_at-source-requires : goal.source_at-source-requires
source_at-source-requires c = room (goal.at.source_at-source-requires c).Else-k-place

pub number_at-number-requires : goal.number_at-number-requires
number_at-number-requires c = room (goal.at.number_at-number-requires c).Else-k-place

pub returns : goal.returns
returns c = λ r w. rw (wait_held c.args.bytes.now r _ _ _ _ w (omega arith) _ _ c.look_at-k.ensures.holds c.if-k-place.false, ← c.source_at-source.ensures, ← c.number_at-number.ensures) c.put_line.ensures
