use native.Mathlib.Omega.{arith}
use Rattle.text.specs.Laws.Appended.{joined}
use Rattle.replay_lines.specs.Lines.{end_line}
use Rattle.replay_lines.proofs.Laws.Lines.{end-length, stuck_length}
use Rattle.replay_lines.proofs.put_end.Goals as goal

pub put_bytes-end-requires : goal.put_bytes-end-requires
put_bytes-end-requires c = omega (arith, rw c.if-finished.true at c.requires, end-length c.args.steps)

pub put_field-requires : goal.put_field-requires
put_field-requires c = omega (arith, rw c.if-finished.true at c.requires, end-length c.args.steps)

pub returns-then-finished : goal.returns-then-finished
unfolding end_line
returns-then-finished c = rw c.if-finished.true (joined c.put_bytes-end.ensures c.put_field.ensures)

pub put_bytes-end-requires-2 : goal.put_bytes-end-requires-2
put_bytes-end-requires-2 c = omega (arith, rw c.if-finished.false at c.requires, stuck_length c.args.steps)

pub put_field-requires-2 : goal.put_field-requires-2
put_field-requires-2 c = omega (arith, rw c.if-finished.false at c.requires, stuck_length c.args.steps)

pub returns : goal.returns
unfolding end_line
returns c = rw c.if-finished.false (joined c.put_bytes-end-2.ensures c.put_field-2.ensures)
