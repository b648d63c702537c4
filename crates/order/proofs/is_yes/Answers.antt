use Rattle.std.proofs.Common.{arith, sym, ◌∙◌}
use Rattle.order.specs.Laws.OrderCode.{yes-short, yes-other, yes_so}
use Rattle.order.proofs.is_yes.Goals.{then-fields-ne2-via-then-fields-ne2, then-fields-ne2-via-else-fields-ne2+then-not-begins_yes}
use Rattle.order.proofs.is_yes.Goals as goal

pub returns-then-fields-ne2 : goal.returns-then-fields-ne2
returns-then-fields-ne2 c = let l = c.args.line.now in elim c.then-fields-ne2.branch [
  | then-fields-ne2-via-then-fields-ne2 w ↦ sym (yes-short l (λ z. w.if-fields-ne2.true (c.fields.ensures.value ∙ z)))
  | then-fields-ne2-via-else-fields-ne2+then-not-begins_yes w ↦ sym (yes-other l (sym w.if-not-begins_yes.ensures))
]

pub returns : goal.returns
returns c = let f = c.fields in
    let y = yes_so c.args.line.now _ _ f.ensures.out_after (sym f.ensures.value ∙ c.if-fields-ne2.false) (sym c.if-not-begins_yes.ensures) (omega arith) in rw (c.is_some.ensures, c.number.ensures) y
