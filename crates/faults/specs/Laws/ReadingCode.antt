-- The search for a line, line by line.
use Rattle.std.specs.Prelude.{◌≡◌, refl, true, false, List, [], ◌∷◌, ℕ, ◌<◌, Option, Some, None}
use Rattle.std.specs.Option.{unwrap_or}
use Rattle.std.proofs.Common.{arith, eq-eqb, ne_eqb}
use Rattle.lines.specs.Fields.{fields_of}
use Rattle.lines.specs.declared.rows.Sizes.{Sizes}
use Rattle.lines.specs.Laws.Rows.{sizes_low}
use Rattle.lines.specs.Lines.{Line}
use Rattle.lines.specs.Number.{number_limit}
use Rattle.lines.specs.Rows.{sizes_of, fields_in}
use Rattle.faults.specs.declared.kind.Kind.{Kind}
use Rattle.faults.specs.Kind.{kind_after}
use Rattle.faults.specs.Reading.{reading_in, no_sizes, sizes_in}

module _ (line : ℕ) (k : Kind) (l : Line) (ls : List Line) where
  pub reading_here : l.number ≡ line → reading_in line k (l ∷ ls) ≡ record { kind = k; there = true; bytes = l.bytes }
  unfolding reading_in
  reading_here h = rw (eq-eqb l.number line h)

  pub reading_on : (l.number ≡ line → ⊥) → reading_in line k (l ∷ ls) ≡ reading_in line (kind_after k) ls
  unfolding reading_in
  reading_on h = rw (ne_eqb l.number line h)

pub reading-none : (line : ℕ) (k : Kind) → reading_in line k [] ≡ record { kind = k; there = false; bytes = [] }
unfolding reading_in
reading-none line k = refl

-- T, N and F as the first line gives them
pub sizes_none : (ls : List Line) → ls ≡ [] → no_sizes ≡ sizes_in ls
unfolding sizes_in
sizes_none ls h = rw h

pub sizes_some : (ls rest : List Line) (l : Line) → ls ≡ l ∷ rest → unwrap_or (sizes_of (fields_of l.bytes)) no_sizes ≡ sizes_in ls
unfolding sizes_in
sizes_some ls rest l h = rw h

low : (line : List ℕ) (o : Option Sizes) → sizes_of (fields_of line) ≡ o → ((unwrap_or o no_sizes).objects < number_limit) × (fields_in (unwrap_or o no_sizes) < number_limit)
low line (Some z) e = sizes_low line z e
low line None e = (omega arith, omega arith)

pub sizes_small : (ls : List Line) → ((sizes_in ls).objects < number_limit) × (fields_in (sizes_in ls) < number_limit)
unfolding sizes_in
sizes_small [] = (omega arith, omega arith)
sizes_small (l ∷ ls) = low l.bytes _ refl
