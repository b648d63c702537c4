use borrow.Author.Tests.{le-leb, lt-leb}
use Rattle.codec.specs.Limit.{is_within}
use Rattle.tracker.specs.Sound.{cell_sound}
use Rattle.transitions.proofs.sound.cell_sound.Goals as goal

pub returns-in-WriteExclusive : goal.returns-in-WriteExclusive
unfolding cell_sound
returns-in-WriteExclusive c = simp c.in-WriteExclusive.is

pub returns-in-ReadExclusive : goal.returns-in-ReadExclusive
unfolding cell_sound
returns-in-ReadExclusive c = simp c.in-ReadExclusive.is

pub returns-then-share-ge1 : goal.returns-then-share-ge1
unfolding cell_sound is_within
returns-then-share-ge1 c = rw (c.in-ReadShared.is, le-leb _ _ c.if-share-ge1.true)

pub returns-else-share-ge1 : goal.returns-else-share-ge1
unfolding cell_sound is_within
returns-else-share-ge1 c = rw (c.in-ReadShared.is, lt-leb _ _ c.if-share-ge1.false)
