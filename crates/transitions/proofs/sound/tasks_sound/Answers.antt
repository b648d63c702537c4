use Prim.Native.Nat.{◌≤◌}
use mathlib.Core.Bool.{true}
use mathlib.Core.Path.{◌≡◌, ◌∙◌, sym}
use native.Mathlib.Nat.{le_antisymm}
use native.Mathlib.Omega.{arith}
use lib.ListN.{get_or}
use Rattle.codec.specs.Limit.{max_accesses}
use Rattle.tracker.proofs.Laws.Range.{all_none, all_more, all_fails}
use Rattle.tracker.proofs.Laws.Sum.{sum-none, sum_more}
use Rattle.tracker.proofs.Laws.Facts.{task_facts}
use Rattle.tracker.specs.Sound.{task_sound_at, tasks_sound}
use Rattle.transitions.proofs.sound.tasks_sound.Goals as goal
use Rattle.transitions.proofs.sound.tasks_sound.Goals.{Else-not-task_sound}

-- the current task passed its test
passed : (c : Else-not-task_sound) →
    let a = c.args in
    task_sound_at a.done a.seen a.took a.shares c.loop-t.t ≡ true
passed c = sym c.task_sound.ensures ∙ c.if-not-task_sound.false

small : (c : Else-not-task_sound) → get_or c.args.done c.loop-t.t 0 ≤ max_accesses
small c = (task_facts _ _ _ _ (passed c)).done_fits

pub loop-t-init : goal.loop-t-init
loop-t-init c = (omega arith, (all_none _, (sym (sum-none _), omega arith)))

pub returns-then-not-task_sound : goal.returns-then-not-task_sound
unfolding tasks_sound
returns-then-not-task_sound c = let a = c.args in
    sym (simp (all_fails (task_sound_at a.done a.seen a.took a.shares) a.tasks c.loop-t.t c.loop-t-test.true
    (sym c.task_sound.ensures ∙ c.if-not-task_sound.true)))

pub overflow_cast-sum : goal.overflow_cast-sum
overflow_cast-sum c = omega (arith, small (goal.at.overflow_cast-sum c).Else-not-task_sound)

pub overflow_add-sum : goal.overflow_add-sum
overflow_add-sum c = omega (arith, small (goal.at.overflow_add-sum c).Else-not-task_sound)

pub loop-t-preserved : goal.loop-t-preserved
loop-t-preserved c = let l = c.loop-t in
    (omega arith, (all_more _ l.t l.invariant.1.0 (passed (goal.at.loop-t-preserved c).Else-not-task_sound), (rw (sum_more, l.invariant.1.1.0), omega (arith, small (goal.at.loop-t-preserved c).Else-not-task_sound))))

pub returns : goal.returns
unfolding tasks_sound
returns c = let l = c.loop-t in
    let e = le_antisymm l.invariant.0 c.loop-t-test.false in
    rw (rw e at l.invariant.1.0, rw e at l.invariant.1.1.0)
