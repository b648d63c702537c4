use Rattle.lines.specs.Rows.{has_fields}
use Rattle.lines.specs.Words.{words_of}
use Rattle.faults.specs.Kind.{first_of, count_of}
use Rattle.faults.specs.Stop.{stop_of}
use Rattle.faults.specs.Laws.FaultTextCode.{text_ended, text_wrong}
use Rattle.faults.proofs.fault.put_line.Goals as goal

pub returns-in-Some-clause-appended : goal.returns-in-Some-clause-appended
returns-in-Some-clause-appended c =
    let s = rw (c.is_some.ensures, c.first.ensures, c.bare.ensures) at c.stop_in-s.ensures in
    let f = rw c.in-Some.is at s.found in
    rw (← text_wrong c.args.kind (count_of c.args.kind c.args.z) (stop_of (has_fields c.args.z) (first_of c.args.kind) 0 (words_of c.args.line.now)) f.1, ← s.expected, ← f.0) c.put_wrong.ensures.appended

pub returns-in-None-clause-appended : goal.returns-in-None-clause-appended
returns-in-None-clause-appended c =
    let s = rw (c.is_some.ensures, c.first.ensures, c.bare.ensures) at c.stop_in-s.ensures in
    let f = rw c.in-None.is at s.found in
    rw (← text_ended c.args.kind (count_of c.args.kind c.args.z) (stop_of (has_fields c.args.z) (first_of c.args.kind) 0 (words_of c.args.line.now)) f, ← s.expected, ← s.words, ← c.count_of.ensures) c.put_end.ensures.appended
