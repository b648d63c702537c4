use mathlib.Core.Path.{refl}
use Rattle.text.proofs.put_bytes.Goals as goal

pub returns : goal.returns
returns c = record { behind = refl; filled = c.put_bytes.ensures }
