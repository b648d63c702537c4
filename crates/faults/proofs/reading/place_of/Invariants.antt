use Rattle.std.proofs.Common.{◌≡◌, ◌+◌, ◌≤◌, length}
use Rattle.lines.specs.Lines.{lines_from}
use Rattle.faults.specs.Reading.{reading_of, reading_in}
use Rattle.faults.proofs.reading.place_of.Given as goal

abbrev pub invariant-loop-next : goal.invariant-loop-next
invariant-loop-next l = record {
  counted : l.number + length l.rest ≤ 1 + length l.text;
  same : reading_in l.line l.kind (lines_from l.number l.rest) ≡ reading_of l.text l.line;
}

abbrev pub decreases-loop-next : goal.decreases-loop-next
decreases-loop-next l = length l.rest
