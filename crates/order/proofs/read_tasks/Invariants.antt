use Rattle.std.proofs.Common.{◌+◌, ◌≤◌, length}
use Rattle.lines.specs.Lines.{lines_from}
use Rattle.order.specs.Laws.OrderCode.{Taken}
use Rattle.order.proofs.read_tasks.Given as goal

abbrev pub invariant-loop-next : goal.invariant-loop-next
invariant-loop-next l = record {
  counted : l.number + length l.rest ≤ l.first + length l.text;
  positive : 1 ≤ l.number;
  taken : Taken (lines_from l.first l.text) l.initial.tasks (lines_from l.number l.rest) l.count l.tasks;
}

abbrev pub decreases-loop-next : goal.decreases-loop-next
decreases-loop-next l = length l.rest
