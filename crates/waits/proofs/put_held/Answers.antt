use Rattle.text.specs.Laws.Appended.{joined}
use Rattle.waits.specs.Differ.{differ_line}
use Rattle.waits.proofs.put_held.Goals as goal

pub returns : goal.returns
unfolding differ_line
returns c = joined (joined (joined c.put_part-a.ensures.appended c.put_part-b.ensures.appended) c.put_cell-c.ensures.appended) c.put_part.ensures.appended
