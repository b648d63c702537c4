use Rattle.text.specs.Laws.Appended.{joined}
use Rattle.faults.proofs.fault.put_missing.Goals as goal

pub returns-clause-appended : goal.returns-clause-appended
returns-clause-appended c = joined (rw c.missing_name.ensures.value at c.put_bytes-name.ensures) c.put_bytes.ensures
