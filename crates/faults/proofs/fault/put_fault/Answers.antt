use Rattle.faults.specs.Laws.FaultTextCode.{text_missing, text_there}
use Rattle.faults.specs.Laws.ReadingCode.{sizes_small}
use Rattle.faults.proofs.fault.put_fault.Goals as goal

pub put_line-requires-clause-objects_lt_limit : goal.put_line-requires-clause-objects_lt_limit
put_line-requires-clause-objects_lt_limit c = rw c.text_sizes.ensures (sizes_small _)

pub returns-in-Some-clause-appended : goal.returns-in-Some-clause-appended
returns-in-Some-clause-appended c =
    let p = c.place_of-p.ensures in
    let f = rw c.in-Some.is at p.line in
    rw (← text_there c.args.text.now c.args.line f.0, ← c.text_sizes.ensures, ← p.kind, ← f.1) c.put_line.ensures.appended

pub returns-in-None-clause-appended : goal.returns-in-None-clause-appended
returns-in-None-clause-appended c =
    let p = c.place_of-p.ensures in
    let f = rw c.in-None.is at p.line in
    rw (← text_missing c.args.text.now c.args.line f, ← p.kind) c.put_missing.ensures.appended
