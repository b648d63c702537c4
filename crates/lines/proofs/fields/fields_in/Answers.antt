use Rattle.std.proofs.Common.{arith}
use Rattle.lines.specs.Laws.FieldsCode.{reads_more, reads_all}
use Rattle.lines.proofs.fields.fields_in.Goals as goal

pub loop-word-preserved : goal.loop-word-preserved
loop-word-preserved c =
    let l = c.loop-word in let w = c.in-Some.ensures in
    let r = reads_more _ _ l.rest.now l.count l.out _ _ l.invariant.reads w.found in
    record { few = omega (arith, w.filled, w.within, l.invariant.few); reads = rw (c.put_field.ensures, c.field.ensures) r }

pub returns-clause-value : goal.returns-clause-value
returns-clause-value c = let l = c.loop-word in (reads_all _ _ l.rest.now l.count l.out l.invariant.reads c.in_default.ensures).0

pub returns-clause-out_after : goal.returns-clause-out_after
returns-clause-out_after c = let l = c.loop-word in (reads_all _ _ l.rest.now l.count l.out l.invariant.reads c.in_default.ensures).1
