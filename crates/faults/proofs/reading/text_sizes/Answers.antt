use Rattle.std.proofs.Common.{◌∙◌}
use Rattle.faults.specs.Laws.ReadingCode.{sizes_none, sizes_some}
use Rattle.faults.proofs.reading.text_sizes.Goals as goal

pub returns-in-Ok : goal.returns-in-Ok
returns-in-Ok c = c.unwrap_or.ensures ∙ rw c.sizes_of.ensures (sizes_some _ _ _ c.in-Ok.ensures.found)

pub returns-in-Err : goal.returns-in-Err
returns-in-Err c = sizes_none _ c.in-Err.ensures.0
