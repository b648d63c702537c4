use Rattle.text.specs.Laws.Zeros.{filled_are}
use Rattle.text.proofs.filled.Goals as goal

pub returns : goal.returns
returns g c = filled_are _ _
