use Rattle.std.proofs.Common.{arith, ap, sym, ◌∙◌, refl}
use Rattle.faults.specs.Reading.{reading_in}
use Rattle.faults.specs.Laws.ReadingCode.{reading_here, reading_on, reading-none}
use Rattle.faults.proofs.reading.place_of.Goals as goal

pub returns-then-next-line : goal.returns-then-next-line
returns-then-next-line c =
    let l = c.loop-next in let n = c.in-Ok.ensures in
    let e = sym l.invariant.same ∙ ap (reading_in c.args.line l.kind) n.found ∙ reading_here c.args.line l.kind _ _ c.if-next-line.true in
    rw e record { kind = refl; line = (refl, refl) }

pub loop-next-preserved : goal.loop-next-preserved
loop-next-preserved c =
    let l = c.loop-next in let n = c.in-Ok.ensures in record {
      counted = omega (arith, n.counted, l.invariant.counted);
      same = rw c.kind_after-kind.ensures (sym (reading_on c.args.line l.kind _ _ c.if-next-line.false) ∙ sym (ap (reading_in c.args.line l.kind) n.found) ∙ l.invariant.same);
    }

pub returns : goal.returns
returns c =
    let l = c.loop-next in
    let e = sym l.invariant.same ∙ ap (reading_in c.args.line l.kind) c.in_default.ensures.0 ∙ reading-none c.args.line l.kind in
    rw e record { kind = refl; line = refl }
