use mathlib.Core.Path.{refl, sym}
use Rattle.pending.proofs.Laws.Look.{look_next}
use Rattle.pending.proofs.next.next_of.Goals as goal

pub returns : goal.returns
returns c = let a = c.args in
    look_next a.run a.bytes.now a.task _ _ _ (record { task = refl; limits = refl; counts = sym c.dones_of-dones.ensures }) _ c.look_at.ensures.looks
