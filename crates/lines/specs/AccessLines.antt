-- The lines of a text that ask for accesses: of the lines that are not skipped, those after the third.
use Rattle.std.specs.Prelude.{List, ℕ, drop}
use Rattle.lines.specs.Lines.{Line, lines_of, numbered}

abbrev pub access_lines : List ℕ → List Line
access_lines text = drop 3 (numbered 1 (lines_of text))
