-- A law of `Range`: the entries of a list that are all under a bound, by index.
use Rattle.std.specs.Prelude.{List, [], ◌∷◌, ℕ, zero, suc, ◌<◌, get_or}
use Rattle.reader.specs.Range.{AllUnder}

-- past the end there is 0
pub under_at : (n : ℕ) (l : List ℕ) (i : ℕ) → 0 < n → AllUnder n l → get_or l i 0 < n
under_at n [] i h w = h
under_at n (x ∷ l) zero h w = w.0
under_at n (x ∷ l) (suc i) h w = under_at n l i h w.1
