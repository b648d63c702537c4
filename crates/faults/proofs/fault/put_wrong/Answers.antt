use Rattle.text.specs.Laws.Appended.{joined}
use Rattle.faults.specs.FaultText.{wrong_text}
use Rattle.faults.proofs.fault.put_wrong.Goals as goal

pub returns-clause-appended : goal.returns-clause-appended
unfolding wrong_text
returns-clause-appended c =
    joined (joined (joined (rw c.name_of.ensures.value at c.put_bytes-name.ensures) c.put_bytes-found.ensures) c.put_shown-shown.ensures.appended) c.put_byte.ensures
