use Rattle.std.proofs.Common.{arith, ap, sym, ◌∙◌, refl}
use Rattle.faults.specs.Stop.{stop_of}
use Rattle.faults.specs.Laws.StopCode.{stop-on, stop_off, stop-none}
use Rattle.faults.proofs.stop.stop_in.Goals as goal

pub returns-then-not-fits : goal.returns-then-not-fits
returns-then-not-fits c =
    let l = c.loop-word in let w = c.in-Some.ensures in let a = c.args in
    let p = rw c.field-field.ensures at (sym c.if-not-fits.ensures) in
    let e = sym l.invariant.same ∙ ap (stop_of a.named l.expected l.words) w.found ∙ stop_off a.named l.expected l.words _ _ p in
    rw e record { expected = refl; words = refl; found = (refl, w.filled) }

pub loop-word-preserved : goal.loop-word-preserved
loop-word-preserved c =
    let l = c.loop-word in let w = c.in-Some.ensures in let a = c.args in
    let p = rw c.field-field.ensures at (sym c.if-not-fits.ensures) in record {
      few = omega (arith, w.filled, w.within, l.invariant.few);
      same = rw (c.next-expected.ensures, c.field-field.ensures) (sym (stop-on a.named l.expected l.words _ _ p) ∙ sym (ap (stop_of a.named l.expected l.words) w.found) ∙ l.invariant.same);
    }

pub returns : goal.returns
returns c =
    let l = c.loop-word in let a = c.args in
    let e = sym l.invariant.same ∙ ap (stop_of a.named l.expected l.words) c.in_default.ensures ∙ stop-none a.named l.expected l.words in
    rw e record { expected = refl; words = refl; found = refl }
