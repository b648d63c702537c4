use mathlib.Core.Path.{refl}
use Rattle.codec.specs.Laws.Store.{store-put}
use native.Mathlib.Omega.{arith}
use Rattle.linked.proofs.answers.put.Goals as goal

pub returns : goal.returns
returns c = rw c.copy_from_slice.ensures.after (store-put c.args.answer.now c.args.numbers.now 0 _ (omega (arith, c.requires, c.told-answer)) refl)
