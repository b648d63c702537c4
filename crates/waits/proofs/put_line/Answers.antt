use Rattle.text.specs.Laws.Appended.{joined}
use Rattle.waits.specs.Waits.{wait_line}
use Rattle.waits.proofs.put_line.Goals as goal

pub returns : goal.returns
unfolding wait_line
returns c = joined (joined (joined (joined c.put_part-a.ensures.appended c.put_part-b.ensures.appended) c.put_part-c.ensures.appended) c.put_part-d.ensures.appended) c.put_byte.ensures
