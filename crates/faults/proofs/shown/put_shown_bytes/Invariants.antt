use Rattle.std.proofs.Common.{◌+◌, map, take}
use Rattle.text.specs.Appended.{Appended}
use Rattle.faults.specs.Shown.{shown_byte}
use Rattle.faults.proofs.shown.put_shown_bytes.Given as goal

abbrev pub invariant-loop-i : goal.invariant-loop-i
invariant-loop-i l = Appended (map shown_byte (take l.i l.word)) l.initial.out l.at l.out (l.at + l.i)
