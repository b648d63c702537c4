use borrow.Author.Tests.{eq-eqb, ne_eqb, le-leb, lt-leb}
use Rattle.tracker.specs.Row.{row_of}
use Rattle.transitions.proofs.table.row_of.Goals as goal

pub returns-then-holder-task : goal.returns-then-holder-task
unfolding row_of
returns-then-holder-task c = simp (c.in-WriteExclusive.is, eq-eqb _ _ c.if-holder-task.true)

pub returns-then-write : goal.returns-then-write
unfolding row_of
returns-then-write c = simp (c.in-WriteExclusive.is, ne_eqb _ _ c.if-holder-task.false, c.if-write.true)

pub returns-else-write : goal.returns-else-write
unfolding row_of
returns-else-write c = simp (c.in-WriteExclusive.is, ne_eqb _ _ c.if-holder-task.false, c.if-write.false)

pub returns-then-write-2 : goal.returns-then-write-2
unfolding row_of
returns-then-write-2 c = simp (c.in-ReadExclusive.is, eq-eqb _ _ c.if-holder-task-2.true, c.if-write-2.true)

pub returns-else-write-2 : goal.returns-else-write-2
unfolding row_of
returns-else-write-2 c = simp (c.in-ReadExclusive.is, eq-eqb _ _ c.if-holder-task-2.true, c.if-write-2.false)

pub returns-then-write-3 : goal.returns-then-write-3
unfolding row_of
returns-then-write-3 c = simp (c.in-ReadExclusive.is, ne_eqb _ _ c.if-holder-task-2.false, c.if-write-3.true)

pub returns-else-write-3 : goal.returns-else-write-3
unfolding row_of
returns-else-write-3 c = simp (c.in-ReadExclusive.is, ne_eqb _ _ c.if-holder-task-2.false, c.if-write-3.false)

pub returns-then-write-4 : goal.returns-then-write-4
unfolding row_of
returns-then-write-4 c = simp (c.in-ReadShared.is, c.if-write-4.true)

pub returns-then-share-seen : goal.returns-then-share-seen
unfolding row_of
returns-then-share-seen c = simp (c.in-ReadShared.is, c.if-write-4.false, le-leb _ _ c.if-share-seen.true)

pub returns-else-share-seen : goal.returns-else-share-seen
unfolding row_of
returns-else-share-seen c = simp (c.in-ReadShared.is, c.if-write-4.false, lt-leb _ _ c.if-share-seen.false)
