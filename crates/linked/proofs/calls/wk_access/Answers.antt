use mathlib.Core.Path.{◌∙◌}
use Rattle.arrays.specs.Laws.HalvesCode.{moved-not, moved_on}
use Rattle.linked.proofs.calls.wk_access.Goals as goal

pub returns-then-r-ne0-clause-halves_after : goal.returns-then-r-ne0-clause-halves_after
returns-then-r-ne0-clause-halves_after c = moved-not _ _ _ (rw (c.access-r.ensures.value, c.state_of-before.ensures) at c.if-r-ne0.true)

pub returns-then-r-ne0-clause-words_after : goal.returns-then-r-ne0-clause-words_after
returns-then-r-ne0-clause-words_after c = moved-not _ _ _ (rw (c.access-r.ensures.value, c.state_of-before.ensures) at c.if-r-ne0.true)

pub returns-clause-halves_after : goal.returns-clause-halves_after
returns-clause-halves_after c = let e = c.access-r.ensures.value in let b = c.state_of-before.ensures in
    (rw (e, b) at c.put_state.ensures.halves_after) ∙ moved_on _ _ _ (rw (e, b) at c.if-r-ne0.false)

pub returns-clause-words_after : goal.returns-clause-words_after
returns-clause-words_after c = let e = c.access-r.ensures.value in let b = c.state_of-before.ensures in
    (rw (e, b) at c.put_state.ensures.words_after) ∙ moved_on _ _ _ (rw (e, b) at c.if-r-ne0.false)
