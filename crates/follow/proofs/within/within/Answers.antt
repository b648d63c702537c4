use mathlib.Core.Path.{sym}
use native.Mathlib.Omega.{arith}
use lib.Seq.{take_all}
use Rattle.follow.specs.Laws.Within.{held_more, held_none}
use Rattle.follow.proofs.within.within.Goals as goal

pub loop-t-init : goal.loop-t-init
loop-t-init c = (omega arith, sym (held_none c.args.run.runs))

pub loop-t-preserved : goal.loop-t-preserved
loop-t-preserved c = let a = c.args in
    let l = c.loop-t in
    (omega arith, held_more a.counts.now a.run.runs l.runs l.t c.min.result l.invariant.1 (omega arith) (omega (arith, c.requires.0)) c.min.ensures)

pub returns : goal.returns
returns c = let a = c.args in
    let l = c.loop-t in
    rw (l.invariant.1, take_all l.t a.counts.now (omega arith))
