-- The word that was read is the one that `f` was given.
use Rattle.std.proofs.Common.{refl, rules}
use Rattle.input.proofs.with_word.Goals as goal

pub returns : goal.returns
returns g c = (_, search rules, (_, c.f.ensures, refl))
