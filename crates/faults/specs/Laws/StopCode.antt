-- The reading of a line, word by word.
use Rattle.std.specs.Prelude.{◌≡◌, refl, Bool, true, false, List, [], ◌∷◌, ℕ, ◌+◌}
use Rattle.lines.specs.Fields.{field_of}
use Rattle.faults.specs.declared.expected.Expected.{Expected}
use Rattle.faults.specs.Expected.{fits_as, next_of}
use Rattle.faults.specs.Stop.{stop_of}

module _ (named : Bool) (e : Expected) (k : ℕ) (w : List ℕ) (ws : List (List ℕ)) where
  pub stop-on : fits_as e (field_of w) ≡ true → stop_of named e k (w ∷ ws) ≡ stop_of named (next_of named e (field_of w)) (k + 1) ws
  unfolding stop_of
  stop-on p = rw p

  pub stop_off : fits_as e (field_of w) ≡ false → stop_of named e k (w ∷ ws) ≡ record { expected = e; words = k; word = w }
  unfolding stop_of
  stop_off p = rw p

pub stop-none : (named : Bool) (e : Expected) (k : ℕ) → stop_of named e k [] ≡ record { expected = e; words = k; word = [] }
unfolding stop_of
stop-none named e k = refl
