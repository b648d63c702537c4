-- The count of a line's numbers fits 64 bits.
use Rattle.std.specs.Prelude.{ℕ, ◌*◌, ◌≤◌, ◌<◌}
use Rattle.std.proofs.Common.{mul-le-mul_left, arith}
use Rattle.codec.specs.Cell.{width_of}
use Rattle.codec.specs.Laws.Cell.{width_few}
use Rattle.lines.specs.Number.{number_limit}

pub count_fits : (objects fields : ℕ) → objects < number_limit → fields < number_limit → objects * width_of fields ≤ 18446744065119617025
count_fits objects fields h k =
    let a : objects * width_of fields ≤ objects * 4294967295 = mul-le-mul_left objects (width_few fields 4294967295 (omega arith) (omega arith)) in omega (arith, a)
