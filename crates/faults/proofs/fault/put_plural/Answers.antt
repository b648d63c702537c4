use Rattle.std.proofs.Common.{eq-eqb, ne_eqb}
use Rattle.text.specs.Laws.Appended.{nothing}
use Rattle.faults.specs.FaultText.{plural_of}
use Rattle.faults.proofs.fault.put_plural.Goals as goal

pub returns-then-n-eq1-clause-appended : goal.returns-then-n-eq1-clause-appended
unfolding plural_of
returns-then-n-eq1-clause-appended c = rw (eq-eqb c.args.n 1 c.if-n-eq1.true) (nothing _ c.args.at)

pub returns-clause-appended : goal.returns-clause-appended
unfolding plural_of
returns-clause-appended c = rw (ne_eqb c.args.n 1 c.if-n-eq1.false) c.put_byte.ensures
