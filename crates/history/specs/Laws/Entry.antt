-- Laws of `Entry`.
use Rattle.std.specs.Prelude.{◌≡◌, ℕ}
use Rattle.codec.specs.declared.Position.{Position}

abbrev pub ordering : (task number : ℕ) → Position
ordering task number = record { task = task; number = number }
