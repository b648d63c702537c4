use mathlib.Core.Path.{◌≡◌}
use lib.ListN.{drop}
use Rattle.codec.specs.Decode.{record_of}
use Rattle.text.specs.Laws.Appended.{nothing}
use Rattle.waits.specs.Differ.{on_differ}
use Rattle.waits.proofs.Laws.Differ.{record-there, no_access}
use Rattle.waits.proofs.put_differ.Goals as goal
use Rattle.waits.proofs.put_differ.Goals.{After-record}

-- the record that was read
read-so : (c : After-record) → let a = c.args in c.record.result ≡ record_of (drop a.at a.bytes.now)
read-so c = let a = c.args in record-there a.bytes.now a.at _ _ c.min-from.ensures c.record.ensures

pub returns-in_default : goal.returns-in_default
unfolding on_differ
returns-in_default c = rw (← read-so (goal.at.returns-in_default c).After-record, c.in_default.is) (nothing c.args.out.now 0)

pub returns-in_default-r : goal.returns-in_default-r
returns-in_default-r c = let a = c.args in rw (← read-so (goal.at.returns-in_default-r c).After-record, c.in-Ok.is, no_access a.fields a.memory.now a.at c.in-Ok.r c.in_default-r.not-Access) (nothing a.out.now 0)

pub returns : goal.returns
unfolding on_differ
returns c = rw (← read-so (goal.at.returns c).After-record, c.in-Ok.is, c.in-Access.is, ← c.op_cell.ensures, ← c.held.ensures) c.put_held.ensures
