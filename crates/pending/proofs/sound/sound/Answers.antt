use native.Mathlib.Omega.{arith}
use mathlib.Core.Path.{sym, ◌∙◌}
use borrow.Author.Tests.{le-leb, lt-leb}
use Rattle.codec.specs.Limit.{max_tasks, max_fields}
use Rattle.codec.specs.Laws.Limit.{within_facts}
use Rattle.pending.specs.Sound.{task_sound_at, sound_of}
use Rattle.pending.proofs.Laws.All.{all-on, all_off, all_end}
use Rattle.pending.proofs.sound.sound.Goals as goal

pub returns-then-not-within : goal.returns-then-not-within
unfolding sound_of
returns-then-not-within c = rw (sym c.within.ensures ∙ c.if-not-within.true)

pub returns-then-not-within-2 : goal.returns-then-not-within-2
unfolding sound_of
returns-then-not-within-2 c = rw (sym c.within.ensures ∙ c.if-not-within.false, sym c.within-2.ensures ∙ c.if-not-within-2.true)

pub returns-then-run-gt-FIELDS : goal.returns-then-run-gt-FIELDS
unfolding sound_of
returns-then-run-gt-FIELDS c = rw (sym c.within.ensures ∙ c.if-not-within.false, sym c.within-2.ensures ∙ c.if-not-within-2.false, lt-leb c.args.run.fields max_fields c.if-run-gt-FIELDS.true)

pub offset_bounds-run-t : goal.offset_bounds-run-t
offset_bounds-run-t c = omega (arith, (within_facts 1 max_tasks c.args.run.tasks (sym c.within.ensures ∙ c.if-not-within.false)).1, c.loop-t-test.true)

pub bounds-run-t : goal.bounds-run-t
bounds-run-t c = omega (arith, (within_facts 1 max_tasks c.args.run.tasks (sym c.within.ensures ∙ c.if-not-within.false)).1, c.loop-t-test.true)

pub returns-then-not-task_sound : goal.returns-then-not-task_sound
unfolding sound_of
returns-then-not-task_sound c = let a = c.args in let l = c.loop-t in rw (sym c.within.ensures ∙ c.if-not-within.false, sym c.within-2.ensures ∙ c.if-not-within-2.false, le-leb c.args.run.fields max_fields c.if-run-gt-FIELDS.false)
    (sym (all_off (task_sound_at a.run a.size) l.t a.run.tasks c.loop-t-test.true (sym c.task_sound.ensures ∙ c.if-not-task_sound.true)) ∙ l.invariant.1)

pub loop-t-preserved : goal.loop-t-preserved
loop-t-preserved c = let a = c.args in let l = c.loop-t in (omega arith, sym (all-on (task_sound_at a.run a.size) l.t a.run.tasks c.loop-t-test.true (sym c.task_sound.ensures ∙ c.if-not-task_sound.false)) ∙ l.invariant.1)

pub returns : goal.returns
unfolding sound_of
returns c = let a = c.args in let l = c.loop-t in rw (sym c.within.ensures ∙ c.if-not-within.false, sym c.within-2.ensures ∙ c.if-not-within-2.false, le-leb c.args.run.fields max_fields c.if-run-gt-FIELDS.false) (sym (all_end (task_sound_at a.run a.size) l.t a.run.tasks c.loop-t-test.false) ∙ l.invariant.1)
