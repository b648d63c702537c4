use Rattle.arrays.proofs.state_of.Goals as goal

pub returns : goal.returns
returns c = rw (c.counters_of-counters.ensures, c.records_of-cells.ensures)
