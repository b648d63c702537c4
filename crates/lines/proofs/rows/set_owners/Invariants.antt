use Rattle.std.proofs.Common.{◌≡◌, map, length, take}
use Rattle.lines.specs.Rows.{owner_of}
use Rattle.lines.proofs.rows.set_owners.Given as goal

abbrev pub invariant-loop-i : goal.invariant-loop-i
invariant-loop-i l = (length l.owners ≡ length l.initial.owners) × (take l.i l.owners ≡ map owner_of (take l.i l.row))
