use borrow.Author.Rules.{rules}
use mathlib.Core.Path.{sym, ◌∙◌}
use native.Mathlib.Omega.{arith}
use Rattle.playability.proofs.Laws.SettleCode.{settle_refused, settle_plays, settle_read}
use Rattle.playability.proofs.settle.settle.Goals as goal

pub returns-in_err-locate : goal.returns-in_err-locate
returns-in_err-locate c = rw (← settle_refused _ _ (sym c.in_err-locate.was ∙ c.locate.ensures)) (search rules)

pub play-requires : goal.play-requires
play-requires c = settle_plays _ _ (sym c.in_ok-locate.was ∙ c.locate.ensures) _ c.started-start.ensures (λ i. omega (arith, c.shared_slice_known-1.given i))

pub returns : goal.returns
returns c = rw c.play.ensures (settle_read _ _ (sym c.in_ok-locate.was ∙ c.locate.ensures) _ c.started-start.ensures)
