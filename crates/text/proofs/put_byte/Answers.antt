use Rattle.text.specs.Laws.Appended.{one_byte}
use Rattle.text.proofs.put_byte.Goals as goal

pub returns : goal.returns
returns c = one_byte c.args.out.now c.args.at c.args.byte
