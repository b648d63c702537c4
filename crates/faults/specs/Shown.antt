-- A word as a message shows it: at most 20 bytes, then `...` if it is longer; a byte that is not a visible character is shown as ?.
use Rattle.std.specs.Prelude.{cond, ◌&&◌, List, ◌++◌, map, ℕ, leb, length, take, codes}

abbrev pub dots_word : List ℕ
dots_word = codes "..."

unfoldable pub shown_byte : ℕ → ℕ
shown_byte b = cond (leb 33 b && leb b 126) b 63

unfoldable pub shown_of : List ℕ → List ℕ
shown_of w = cond (leb (length w) 20) (map shown_byte w) (map shown_byte (take 20 w) ++ dots_word)
