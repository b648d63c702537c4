use Rattle.std.proofs.Common.{◌≡◌, ◌+◌, ◌≤◌, length}
use Rattle.lines.specs.Laws.Lines.{Left}
use Rattle.lines.specs.Lines.{lines_from, line_behind}
use Rattle.lines.proofs.next_line.Given as goal

abbrev pub invariant-loop-left : goal.invariant-loop-left
invariant-loop-left l = record {
  within : length l.left ≤ length l.text;
  counted : l.number + length l.left ≤ l.first + length l.text;
  same : lines_from l.number l.left ≡ lines_from l.first l.text;
  behind : line_behind l.number l.left ≡ line_behind l.first l.text;
  left : Left l.text l.left;
}

abbrev pub decreases-loop-left : goal.decreases-loop-left
decreases-loop-left l = length l.left
