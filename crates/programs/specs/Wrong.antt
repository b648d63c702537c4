-- A line is missing or wrong: if the text has it, its reading stops before the line is complete.
use Rattle.std.specs.Prelude.{true, false, ◌≡◌}
use Rattle.faults.specs.Kind.{first_of, count_of}
use Rattle.faults.specs.Reading.{Reading}
use Rattle.faults.specs.Stop.{stop_of}
use Rattle.faults.specs.Whole.{is_whole}
use Rattle.lines.specs.declared.rows.Sizes.{Sizes}
use Rattle.lines.specs.Rows.{has_fields}
use Rattle.lines.specs.Words.{words_of}

-- given T, N and F as the first line has them
abbrev pub Wrong : Sizes → Reading → Type 0
Wrong z d = d.there ≡ true → is_whole d.kind (count_of d.kind z) (stop_of (has_fields z) (first_of d.kind) 0 (words_of d.bytes)) ≡ false
