use mathlib.Core.Path.{◌≡◌, sym, ap, ◌∙◌}
use Rattle.playability.specs.PlayableOf.{PlayableOutcome}
use Rattle.playability.proofs.Laws.PlayableCode.{playable_refused, settled_sound, playable_held, playable_short, playable_order}
use Rattle.playability.proofs.playable_settled.Goals as goal

-- a known outcome, in the two parts that are needed
parts : {x y : PlayableOutcome} → x ≡ y → (x.answer ≡ y.answer) × (x.out ≡ y.out)
parts e = (ap (λ (o : PlayableOutcome). o.answer) e, ap (λ (o : PlayableOutcome). o.out) e)

pub returns-in-Err : goal.returns-in-Err
returns-in-Err c = let e = parts (playable_refused _ _ (sym c.in-Err.is ∙ c.requires) c.args.out.now) in record { value = c.refused.ensures ∙ e.0; out_after = e.1 }

pub hold_of-requires : goal.hold_of-requires
hold_of-requires c = settled_sound _ _ (sym c.in-Ok.is ∙ c.requires)

pub returns-in-Some : goal.returns-in-Some
returns-in-Some c = let e = parts (playable_held _ _ (sym c.in-Ok.is ∙ c.requires) c.args.out.now _ c.hold_of.ensures _ c.in-Some.is) in
    record { value = c.refused-in-Some.ensures ∙ e.0; out_after = e.1 }

pub returns-then-out-s : goal.returns-then-out-s
returns-then-out-s c = let e = parts (playable_short _ _ (sym c.in-Ok.is ∙ c.requires) c.args.out.now _ c.hold_of.ensures c.in_default.is c.if-out-s.true) in
    record { value = c.refused-then-out-s.ensures ∙ e.0; out_after = e.1 }

pub returns : goal.returns
returns c =
    let both = let f = c.schedule-steps.ensures in
    parts (playable_order _ _ (sym c.in-Ok.is ∙ c.requires) c.args.out.now _ c.hold_of.ensures c.in_default.is c.if-out-s.false _ _ f.value f.out_after) in
    record { value = both.0; out_after = both.1 }
