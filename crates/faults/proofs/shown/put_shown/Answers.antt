use Rattle.faults.specs.Laws.ShownCode.{shown-whole, shown-cut}
use Rattle.faults.proofs.shown.put_shown.Goals as goal

pub returns-then-word-le20-clause-appended : goal.returns-then-word-le20-clause-appended
returns-then-word-le20-clause-appended c = shown-whole _ c.if-word-le20.true c.put_shown_bytes.ensures

pub returns-clause-appended : goal.returns-clause-appended
returns-clause-appended c = shown-cut c.args.word.now c.if-word-le20.false c.put_shown_bytes-end.ensures c.put_bytes.ensures
