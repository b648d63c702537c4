-- What the line with a given number is read as: blank lines and comments are skipped, the others are T and N, or T, N and F; the owners; the
-- starting values; and accesses.
use Rattle.std.specs.Prelude.{◌≡◌, Bool, true, false, cond, List, [], ◌∷◌, ℕ, eqb, Option, Some, None}
use Rattle.std.specs.Option.{unwrap_or}
use denote.Ref.{Bor}
use Rattle.lines.specs.declared.rows.Sizes as sizes
use Rattle.lines.specs.Lines.{Line, lines_of, numbered}
use Rattle.lines.specs.Fields.{fields_of}
use Rattle.lines.specs.Rows.{sizes_of}
use Rattle.faults.specs.declared.kind.Kind.{Kind}
use Rattle.faults.specs.declared.kind.Kind.TheVariants.{Sizes}
use Rattle.faults.specs.declared.reading.Place.{Place}
use Rattle.faults.specs.Kind.{kind_after}

-- what the line is, whether the text has it, and its bytes
pub record Reading : Type 0 where
  pub kind : Kind
  pub there : Bool
  pub bytes : List ℕ

unfoldable pub reading_in : ℕ → Kind → List Line → Reading
reading_in line k [] = record { kind = k; there = false; bytes = [] }
reading_in line k (l ∷ ls) = cond (eqb l.number line) (record { kind = k; there = true; bytes = l.bytes }) (reading_in line (kind_after k) ls)

abbrev pub reading_of : List ℕ → ℕ → Reading
reading_of text line = reading_in line Sizes (numbered 1 (lines_of text))

-- a line that the text has, or that it does not have
abbrev pub Has : Reading → Option (Bor (List ℕ)) → Type 0
Has d (Some line) = (d.there ≡ true) × (line.now ≡ d.bytes)
Has d None = d.there ≡ false

pub record Stands (d : Reading) (r : Place) : Type 0 where
  pub kind : r.kind ≡ d.kind
  pub line : Has d r.line

-- the sizes of a text whose first line gives none
abbrev pub no_sizes : sizes.Sizes
no_sizes = record { tasks = 0; objects = 0; fields = None }

-- T, N and F as the first line gives them
unfoldable pub sizes_in : List Line → sizes.Sizes
sizes_in [] = no_sizes
sizes_in (l ∷ ls) = unwrap_or (sizes_of (fields_of l.bytes)) no_sizes

abbrev pub text_sizes : List ℕ → sizes.Sizes
text_sizes text = sizes_in (numbered 1 (lines_of text))
