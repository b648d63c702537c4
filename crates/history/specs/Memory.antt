-- The reference memory, which takes all writes of a history (document 01: the paper box), and the memory that takes only the writes that
-- are in. In both a cell's value is its latest write.
use Rattle.std.specs.Prelude.{[], ◌∷◌, cond, ◌&&◌, ℕ, ltb}
use Rattle.history.specs.Entry.{writes, value_of}
use Rattle.history.specs.History.{History, count}

module _ (start : ℕ → ℕ) where
  unfoldable pub reference : History → ℕ → ℕ
  reference [] c = start c
  reference (e ∷ g) c = cond (writes c e.act) (value_of e.act) (reference g c)

  -- the memory of the writes that are in
  unfoldable pub memory_of : (ℕ → ℕ) → History → ℕ → ℕ
  memory_of done [] c = start c
  memory_of done (e ∷ g) c = cond (writes c e.act && ltb (count e.task g) (done e.task)) (value_of e.act) (memory_of done g c)
