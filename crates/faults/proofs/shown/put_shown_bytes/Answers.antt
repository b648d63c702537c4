use Rattle.std.proofs.Common.{arith}
use Rattle.faults.specs.Laws.ShownCode.{shown-none, shown-more}
use Rattle.faults.proofs.shown.put_shown_bytes.Goals as goal

pub loop-i-init : goal.loop-i-init
loop-i-init c = shown-none _ _

pub loop-i-preserved : goal.loop-i-preserved
loop-i-preserved c = let l = c.loop-i in rw c.shown_byte.ensures (shown-more _ l.i (omega arith) l.invariant)
