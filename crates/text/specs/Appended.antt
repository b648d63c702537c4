-- Text put into a buffer at an offset: the bytes before and after it stay as they were.
use Rattle.std.specs.Prelude.{◌≡◌, List, ℕ, ◌+◌, length}
use Rattle.codec.specs.Store.{store}

-- `end` is the offset after the text
pub record Appended (text before : List ℕ) (at : ℕ) (after : List ℕ) (end : ℕ) : Type 0 where
  pub behind : end ≡ at + length text
  pub filled : after ≡ store before at text
