use mathlib.Core.Path.{◌≡◌, sym, ◌∙◌}
use mathlib.Core.Bool.{true}
use native.Mathlib.Omega.{arith}
use lib.ListN.{length}
use borrow.Author.Tests.{lt-ltb, le-ltb}
use Rattle.codec.specs.Head.{head_length}
use Rattle.codec.specs.Limit.{is_within, max_tasks, max_objects, max_fields}
use Rattle.codec.specs.Laws.Limit.{within_facts}
use Rattle.reader.specs.Parse.{all_below}
use Rattle.opening.specs.OpenOf.{entries_ok, open_number}
use Rattle.opening.proofs.open_number.Goals as goal
use Rattle.opening.proofs.open_number.Goals.{Else-not-entries_ok, Else-not-owners_below, Else-not-within, Else-not-within-2, Else-not-within-3}

-- the tests passed so far
tasks_fit : (c : Else-not-within) → is_within 1 max_tasks c.args.tasks ≡ true
tasks_fit c = sym c.within.ensures ∙ c.if-not-within.false

objects_fit : (c : Else-not-within-2) → is_within 1 max_objects c.args.objects ≡ true
objects_fit c = sym c.within-2.ensures ∙ c.if-not-within-2.false

fields_fit : (c : Else-not-within-3) → let a = c.args in is_within a.least max_fields a.fields ≡ true
fields_fit c = sym c.within-3.ensures ∙ c.if-not-within-3.false

entries_fit : (c : Else-not-entries_ok) → let a = c.args in
    entries_ok a.fields a.objects (length a.owners.now) a.starts a.memory ≡ true
entries_fit c = sym c.entries_ok.ensures ∙ c.if-not-entries_ok.false

owners-fit : (c : Else-not-owners_below) → let a = c.args in all_below a.tasks a.owners.now ≡ true
owners-fit c = sym c.owners_below.ensures ∙ c.if-not-owners_below.false

pub returns-then-not-within : goal.returns-then-not-within
unfolding open_number
returns-then-not-within c = rw (sym c.within.ensures ∙ c.if-not-within.true)

pub returns-then-not-within-2 : goal.returns-then-not-within-2
unfolding open_number
returns-then-not-within-2 c = rw (tasks_fit (goal.at.returns-then-not-within-2 c).Else-not-within, sym c.within-2.ensures ∙ c.if-not-within-2.true)

pub returns-then-not-within-3 : goal.returns-then-not-within-3
unfolding open_number
returns-then-not-within-3 c = let d = (goal.at.returns-then-not-within-3 c).Else-not-within-2 in rw (tasks_fit (goal.at.Else-not-within-2 d).Else-not-within, objects_fit d, sym c.within-3.ensures ∙ c.if-not-within-3.true)

pub entries_ok-requires : goal.entries_ok-requires
entries_ok-requires c = ((within_facts _ max_fields _ (fields_fit (goal.at.entries_ok-requires c).Else-not-within-3)).1, (within_facts 1 max_objects _ (objects_fit (goal.at.entries_ok-requires c).Else-not-within-2)).1)

pub returns-then-not-entries_ok : goal.returns-then-not-entries_ok
unfolding open_number
returns-then-not-entries_ok c = let d = (goal.at.returns-then-not-entries_ok c).Else-not-within-3 in rw (tasks_fit (goal.at.Else-not-within-3 d).Else-not-within, objects_fit (goal.at.Else-not-within-3 d).Else-not-within-2, fields_fit d, sym c.entries_ok.ensures ∙ c.if-not-entries_ok.true)

pub returns-then-not-owners_below : goal.returns-then-not-owners_below
unfolding open_number
returns-then-not-owners_below c = let d = (goal.at.returns-then-not-owners_below c).Else-not-entries_ok in rw (tasks_fit (goal.at.Else-not-entries_ok d).Else-not-within, objects_fit (goal.at.Else-not-entries_ok d).Else-not-within-2, fields_fit (goal.at.Else-not-entries_ok d).Else-not-within-3, entries_fit d, sym c.owners_below.ensures ∙ c.if-not-owners_below.true)

pub head_length-requires : goal.head_length-requires
head_length-requires c = let d = (goal.at.head_length-requires c).Else-not-within-3 in (omega (arith, (within_facts _ max_fields _ (fields_fit d)).1), omega (arith, (within_facts 1 max_objects _ (objects_fit (goal.at.Else-not-within-3 d).Else-not-within-2)).1))

pub returns-then-out-head_length : goal.returns-then-out-head_length
unfolding open_number
returns-then-out-head_length c = let a = c.args in let d = (goal.at.returns-then-out-head_length c).Else-not-owners_below in rw (tasks_fit (goal.at.Else-not-owners_below d).Else-not-within, objects_fit (goal.at.Else-not-owners_below d).Else-not-within-2, fields_fit (goal.at.Else-not-owners_below d).Else-not-within-3, entries_fit (goal.at.Else-not-owners_below d).Else-not-entries_ok, owners-fit d, lt-ltb a.out (head_length a.fields a.objects) (omega arith))

pub returns : goal.returns
unfolding open_number
returns c = let a = c.args in let d = (goal.at.returns c).Else-not-owners_below in rw (tasks_fit (goal.at.Else-not-owners_below d).Else-not-within, objects_fit (goal.at.Else-not-owners_below d).Else-not-within-2, fields_fit (goal.at.Else-not-owners_below d).Else-not-within-3, entries_fit (goal.at.Else-not-owners_below d).Else-not-entries_ok, owners-fit d, le-ltb a.out (head_length a.fields a.objects) (omega arith))
