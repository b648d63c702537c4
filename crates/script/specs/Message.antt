-- What `record` writes to standard error if it writes no recording.
use Rattle.std.specs.Prelude.{cond, List, [], ◌∷◌, ◌++◌, ℕ, eqb}
use Rattle.faults.specs.FaultText.{fault_text}
use Rattle.text.specs.Decimal.{decimal_of, field_of}

-- `line `, `: expected `, `: refused `, `long` and a newline
abbrev pub line_word : List ℕ
line_word = 108 ∷ 105 ∷ 110 ∷ 101 ∷ 32 ∷ []

abbrev pub expected_word : List ℕ
expected_word = 58 ∷ 32 ∷ 101 ∷ 120 ∷ 112 ∷ 101 ∷ 99 ∷ 116 ∷ 101 ∷ 100 ∷ 32 ∷ []

abbrev pub refused_word : List ℕ
refused_word = 58 ∷ 32 ∷ 114 ∷ 101 ∷ 102 ∷ 117 ∷ 115 ∷ 101 ∷ 100 ∷ 32 ∷ []

abbrev pub long_word : List ℕ
long_word = 108 ∷ 111 ∷ 110 ∷ 103 ∷ 10 ∷ []

-- why a line stopped the text: for number 0 what was expected in it, otherwise refused with the number, and a newline
unfoldable pub reason_of : List ℕ → ℕ → ℕ → List ℕ
reason_of text line number = cond (eqb number 0) (expected_word ++ fault_text text line) (refused_word ++ field_of number 10)

-- the line and the reason; nothing for line 0, which means that no line stopped the text
unfoldable pub message_of : List ℕ → ℕ → ℕ → List ℕ
message_of text line number = cond (eqb line 0) [] (line_word ++ decimal_of line ++ reason_of text line number)
