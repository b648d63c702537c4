use Rattle.std.proofs.Common.{ap, sym, ℕ, take}
use Rattle.lines.specs.Laws.Bytes.{index_at, index_missing}
use Rattle.lines.proofs.before.before.Goals as goal

pub returns-in-Some : goal.returns-in-Some
returns-in-Some c = ap (λ (n : ℕ). take n c.args.bytes.now) (sym (index_at c.args.byte c.args.bytes.now c.in-Some.end (sym c.in-Some.ensures)))

pub returns-in-None : goal.returns-in-None
returns-in-None c = sym (index_missing c.args.byte c.args.bytes.now (sym c.in-None.ensures))
