-- Laws of `Reason`.
use Rattle.std.specs.Prelude.{◌≤◌}
use Rattle.std.proofs.Common.{arith}
use Rattle.codec.specs.declared.number.Reason.{Reason}
use Rattle.codec.specs.declared.number.Reason.TheVariants.{TaskRange, ObjectRange, Entries, OwnerRange, NoTask, NoObject, NoSort, Full, NoRoom, Short, Malformed, Misplaced, Range, InBody, Finished, Held, Unsound, NoOrder, Differs, NoField, Ends}
use Rattle.codec.specs.Reason.{number_of}

-- no reason has number 0
pub some-number : (r : Reason) → 1 ≤ number_of r
some-number TaskRange = omega arith
some-number ObjectRange = omega arith
some-number Entries = omega arith
some-number OwnerRange = omega arith
some-number NoTask = omega arith
some-number NoObject = omega arith
some-number NoSort = omega arith
some-number Full = omega arith
some-number NoRoom = omega arith
some-number Short = omega arith
some-number Malformed = omega arith
some-number Misplaced = omega arith
some-number Range = omega arith
some-number InBody = omega arith
some-number Finished = omega arith
some-number Held = omega arith
some-number Unsound = omega arith
some-number NoOrder = omega arith
some-number Differs = omega arith
some-number NoField = omega arith
some-number Ends = omega arith
