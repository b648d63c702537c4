-- The message about a fault, after `line 7: expected `.
use Rattle.std.specs.Prelude.{cond, List, [], ◌∷◌, ◌++◌, ℕ, eqb, length, codes}
use Rattle.lines.specs.declared.rows.Sizes as sizes
use Rattle.lines.specs.Rows.{has_fields}
use Rattle.lines.specs.Words.{words_of}
use Rattle.text.specs.Decimal.{decimal_of, field_of}
use Rattle.faults.specs.declared.expected.Expected.{Expected}
use Rattle.faults.specs.declared.kind.Kind.{Kind}
use Rattle.faults.specs.declared.kind.Kind.TheVariants.{Sizes, Owners, Starts, Access}
use Rattle.faults.specs.Kind.{first_of, count_of}
use Rattle.faults.specs.Name.{name_of, missing_name}
use Rattle.faults.specs.Reading.{Reading, reading_of, text_sizes}
use Rattle.faults.specs.Shown.{shown_of}
use Rattle.faults.specs.Stop.{Stop, stop_of}

-- `, found `; the same followed by `the end of the line` or `the end of the text` and a newline
abbrev pub found_word : List ℕ
found_word = codes ", found "

abbrev pub found_line_end : List ℕ
found_line_end = codes ", found the end of the line\n"

abbrev pub found_text_end : List ℕ
found_text_end = codes ", found the end of the text\n"

-- this word was found where another was expected
unfoldable pub wrong_text : Expected → List ℕ → List ℕ
wrong_text e w = name_of e ++ found_word ++ shown_of w ++ (10 ∷ [])

-- ` owner` and ` starting value`
abbrev pub owner_noun : List ℕ
owner_noun = codes " owner"

abbrev pub start_noun : List ℕ
start_noun = codes " starting value"

-- `s`, unless there is one
unfoldable pub plural_of : ℕ → List ℕ
plural_of n = cond (eqb n 1) [] (115 ∷ [])

abbrev pub noun_text : ℕ → List ℕ → List ℕ
noun_text n word = decimal_of n ++ word ++ plural_of n

-- one number was expected and another found: `2 owners, found 3`
abbrev pub count_text : ℕ → List ℕ → ℕ → List ℕ
count_text n word k = noun_text n word ++ found_word ++ field_of k 10

-- the line ended after a number of words that were as expected
abbrev pub end_text : Kind → ℕ → Expected → ℕ → List ℕ
end_text Sizes n e k = name_of e ++ found_line_end
end_text Owners n e k = count_text n owner_noun k
end_text Starts n e k = count_text n start_noun k
end_text Access n e k = name_of e ++ found_line_end

-- for a line that has to have so many numbers if it is a list, by where its reading stopped
unfoldable pub stop_text : Kind → ℕ → Stop → List ℕ
stop_text kind n s = cond (eqb (length s.word) 0) (end_text kind n s.expected s.words) (wrong_text s.expected s.word)

-- the text ended where such a line was expected
abbrev pub missing_text : Kind → List ℕ
missing_text kind = missing_name kind ++ found_text_end

-- for a line of a text that begins with T, N and F
abbrev pub line_text : sizes.Sizes → Kind → List ℕ → List ℕ
line_text z kind line = stop_text kind (count_of kind z) (stop_of (has_fields z) (first_of kind) 0 (words_of line))

unfoldable pub reading_text : sizes.Sizes → Reading → List ℕ
reading_text z d = cond d.there (line_text z d.kind d.bytes) (missing_text d.kind)

-- the fault in a line of a text
abbrev pub fault_text : List ℕ → ℕ → List ℕ
fault_text text line = reading_text (text_sizes text) (reading_of text line)
