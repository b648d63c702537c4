-- The class of a row (document 01: "1 to 3 same, 4 and 5 upgrading, 6 fence, 7 to 10 conflicting").
use Rattle.std.specs.Prelude.{cond, ℕ}
use Rattle.codec.specs.Limit.{is_within}

-- the classes' numbers; a refused access has class `none`
abbrev pub none : ℕ
none = 0

abbrev pub same : ℕ
same = 1

abbrev pub upgrading : ℕ
upgrading = 2

abbrev pub fence : ℕ
fence = 3

abbrev pub conflicting : ℕ
conflicting = 4

-- the class of a row's number, `none` if there is no such row
unfoldable pub class_of : ℕ → ℕ
class_of row =
    cond (is_within 1 3 row) same
    (cond (is_within 4 5 row) upgrading
    (cond (is_within 6 6 row) fence
    (cond (is_within 7 10 row) conflicting none)))
