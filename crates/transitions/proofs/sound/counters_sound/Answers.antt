use mathlib.Core.Bool.{true}
use mathlib.Core.Path.{◌≡◌, ◌∙◌, sym}
use borrow.Author.Tests.{le-leb, lt-leb}
use lib.Dec.{leb}
use Rattle.codec.specs.Limit.{is_within, max_tasks, max_objects, max_fields}
use Rattle.codec.specs.Laws.Limit.{within_facts}
use Rattle.tracker.specs.Laws.Scan.{counters_sound}
use Rattle.tracker.specs.Sound.{last_sound}
use Rattle.transitions.proofs.sound.counters_sound.Goals as goal
use Rattle.transitions.proofs.sound.counters_sound.Goals.{Else-counters-gt-FIELDS, Else-not-last_sound, Else-not-within, Else-not-within-2}

-- what the tests so far have shown
tasks_in_lem : (c : Else-not-within) → is_within 1 max_tasks c.args.counters.tasks ≡ true
tasks_in_lem c = sym c.within.ensures ∙ c.if-not-within.false

objects-in : (c : Else-not-within-2) → is_within 1 max_objects c.args.counters.objects ≡ true
objects-in c = sym c.within-2.ensures ∙ c.if-not-within-2.false

fields_in : (c : Else-counters-gt-FIELDS) → leb c.args.counters.fields max_fields ≡ true
fields_in c = le-leb _ _ c.if-counters-gt-FIELDS.false

last-good : (c : Else-not-last_sound) → let m = c.args.counters in last_sound m.last m.tasks m.shares m.done ≡ true
last-good c = sym c.last_sound.ensures ∙ c.if-not-last_sound.false

pub returns-then-not-within : goal.returns-then-not-within
unfolding counters_sound
returns-then-not-within c = simp (sym c.within.ensures ∙ c.if-not-within.true)

pub returns-then-not-within-2 : goal.returns-then-not-within-2
unfolding counters_sound
returns-then-not-within-2 c = simp (tasks_in_lem (goal.at.returns-then-not-within-2 c).Else-not-within, sym c.within-2.ensures ∙ c.if-not-within-2.true)

pub returns-then-counters-gt-FIELDS : goal.returns-then-counters-gt-FIELDS
unfolding counters_sound
returns-then-counters-gt-FIELDS c = simp (tasks_in_lem (goal.at.returns-then-counters-gt-FIELDS c).Else-not-within, objects-in (goal.at.returns-then-counters-gt-FIELDS c).Else-not-within-2, lt-leb _ _ c.if-counters-gt-FIELDS.true)

pub last_sound-requires : goal.last_sound-requires
last_sound-requires c = (within_facts 1 max_tasks _ (tasks_in_lem (goal.at.last_sound-requires c).Else-not-within)).1

pub returns-then-not-last_sound : goal.returns-then-not-last_sound
unfolding counters_sound
returns-then-not-last_sound c = simp (tasks_in_lem (goal.at.returns-then-not-last_sound c).Else-not-within, objects-in (goal.at.returns-then-not-last_sound c).Else-not-within-2, fields_in (goal.at.returns-then-not-last_sound c).Else-counters-gt-FIELDS, sym c.last_sound.ensures ∙ c.if-not-last_sound.true)

pub tasks_sound-requires : goal.tasks_sound-requires
tasks_sound-requires c = (within_facts 1 max_tasks _ (tasks_in_lem (goal.at.tasks_sound-requires c).Else-not-within)).1

pub returns : goal.returns
unfolding counters_sound
returns c = simp (tasks_in_lem (goal.at.returns c).Else-not-within, objects-in (goal.at.returns c).Else-not-within-2, fields_in (goal.at.returns c).Else-counters-gt-FIELDS, last-good (goal.at.returns c).Else-not-last_sound, c.tasks_sound.ensures)
