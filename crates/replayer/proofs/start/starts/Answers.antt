use mathlib.Core.Path.{◌≡◌, sym, ◌∙◌}
use Rattle.std.proofs.Common.{rules}
use Rattle.pending.specs.Run.{blank_task}
use native.Mathlib.Omega.{arith}
use native.Mathlib.Nat.{le_antisymm}
use Rattle.replayer.proofs.Laws.OpenCode.{starts_none, starts_more, starts_clipped}
use Rattle.replayer.proofs.start.starts.Goals as goal

pub loop-t-init : goal.loop-t-init
loop-t-init c = (omega arith, omega (arith, c.min-few.ensures), let e : c.default-runs.result ≡ blank_task = search rules in rw e (sym (starts_none _)))

pub loop-t-preserved : goal.loop-t-preserved
loop-t-preserved c = (omega arith, c.loop-t.invariant.1, rw (starts_more, c.loop-t.invariant.2))

pub returns : goal.returns
returns c = (rw (le_antisymm c.loop-t.invariant.0 c.loop-t-test.false, c.min-few.ensures) at c.loop-t.invariant.2) ∙ starts_clipped _ _
