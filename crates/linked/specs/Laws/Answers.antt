-- Laws of `Answers`.
use Rattle.std.specs.Prelude.{Bool, true, false, ◌≡◌, refl}
use mir.Val.{bool_byte}
use Rattle.codec.specs.Bit.{bit}

-- a bool cast to a number is its bit
pub bool_bit : (b : Bool) → bool_byte b ≡ bit b
bool_bit true = refl
bool_bit false = refl
