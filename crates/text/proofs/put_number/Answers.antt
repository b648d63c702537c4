use mathlib.Core.Path.{◌∙◌}
use native.Mathlib.Omega.{arith}
use Rattle.text.specs.Laws.Decimal.{decimal_so}
use Rattle.text.proofs.put_number.Goals as goal

pub put_bytes-requires : goal.put_bytes-requires
put_bytes-requires c = let d = c.decimal-k in rw (d.ensures.digits ∙ decimal_so c.args.n d.result (omega arith) d.ensures.len) c.requires

pub returns : goal.returns
returns c = let d = c.decimal-k in rw (d.ensures.digits ∙ decimal_so c.args.n d.result (omega arith) d.ensures.len) at c.put_bytes.ensures
