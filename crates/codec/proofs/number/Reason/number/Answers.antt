use Rattle.std.specs.Prelude.{◌≡◌, refl, ◌+◌}
use denote.Enum.Declared.{tag_of}
use Rattle.codec.specs.contracts.number.Reason.{the_type}
use Rattle.codec.specs.declared.number.Reason.{Reason}
use Rattle.codec.specs.declared.number.Reason.TheVariants.{TaskRange, ObjectRange, Entries, OwnerRange, NoTask, NoObject, NoSort, Full, NoRoom, Short, Malformed, Misplaced, Range, InBody, Finished, Held, Unsound, NoOrder, Differs, NoField, Ends}
use Rattle.codec.specs.Reason.{number_of}
use Rattle.codec.proofs.number.Reason.number.Goals as goal

-- the numbers are those of the enum's order, from 1 on
numbered : (r : Reason) → tag_of the_type r + 1 ≡ number_of r
numbered TaskRange = refl
numbered ObjectRange = refl
numbered Entries = refl
numbered OwnerRange = refl
numbered NoTask = refl
numbered NoObject = refl
numbered NoSort = refl
numbered Full = refl
numbered NoRoom = refl
numbered Short = refl
numbered Malformed = refl
numbered Misplaced = refl
numbered Range = refl
numbered InBody = refl
numbered Finished = refl
numbered Held = refl
numbered Unsound = refl
numbered NoOrder = refl
numbered Differs = refl
numbered NoField = refl
numbered Ends = refl

pub returns : goal.returns
returns c = numbered c.args.self
