use native.Mathlib.Omega.{arith}
use mathlib.Core.Path.{◌≡◌, sym, ap, ◌∙◌}
use Rattle.reader.specs.Laws.Located.{reads}
use Rattle.playback.specs.Alike.{Comparison}
use Rattle.playback.specs.ToEnd.{play_of}
use Rattle.playback.specs.Laws.AlikeCode.{both_ended, first_away, second_away, first-entries, second-entries, both_play}
use Rattle.playback.proofs.alike.same_outcome.Goals as goal

-- a known outcome, in the three parts that are needed
parts : {x y : Comparison} → x ≡ y → (x.answer ≡ y.answer) × ((x.first ≡ y.first) × (x.second ≡ y.second))
parts e = (ap (λ (o : Comparison). o.answer) e, (ap (λ (o : Comparison). o.first) e, ap (λ (o : Comparison). o.second) e))

pub returns-in-Err : goal.returns-in-Err
returns-in-Err c = let a = c.args in let e = parts (first_away a.first.now a.second.now a.first_memory.now a.second_memory.now _ (sym c.in-Err.is ∙ c.locate.ensures)) in record { value = c.refused.ensures ∙ e.0; first_memory_after = e.1.0; second_memory_after = e.1.1 }

pub returns-in-Err-locate : goal.returns-in-Err-locate
returns-in-Err-locate c = let a = c.args in let e = parts (second_away a.first.now a.second.now a.first_memory.now a.second_memory.now _ (sym c.in-Ok.is ∙ c.locate.ensures) _ (sym c.in-Err-locate.is ∙ c.locate-2.ensures)) in record { value = c.refused-in-Err-locate.ensures ∙ e.0; first_memory_after = e.1.0; second_memory_after = e.1.1 }

pub cells_of-requires : goal.cells_of-requires
cells_of-requires c = let w = reads c.args.first.now _ (sym c.in-Ok.is ∙ c.locate.ensures) in (omega (arith, w.few_fields), omega (arith, w.few_objects))

pub returns-then-first_memory-cells_of : goal.returns-then-first_memory-cells_of
returns-then-first_memory-cells_of c = let a = c.args in let e = parts (first-entries a.first.now a.second.now a.first_memory.now a.second_memory.now _ (sym c.in-Ok.is ∙ c.locate.ensures) _ (sym c.in-Ok-locate.is ∙ c.locate-2.ensures) (λ q. c.if-first_memory-cells_of.true (q ∙ sym c.cells_of.ensures))) in record { value = c.refused-then-first_memory-cells_of.ensures ∙ e.0; first_memory_after = e.1.0; second_memory_after = e.1.1 }

pub cells_of-requires-2 : goal.cells_of-requires-2
cells_of-requires-2 c = let w = reads c.args.second.now _ (sym c.in-Ok-locate.is ∙ c.locate-2.ensures) in (omega (arith, w.few_fields), omega (arith, w.few_objects))

pub returns-then-second_memory-cells_of : goal.returns-then-second_memory-cells_of
returns-then-second_memory-cells_of c = let a = c.args in let e = parts (second-entries a.first.now a.second.now a.first_memory.now a.second_memory.now _ (sym c.in-Ok.is ∙ c.locate.ensures) _ (sym c.in-Ok-locate.is ∙ c.locate-2.ensures) (c.if-first_memory-cells_of.false ∙ c.cells_of.ensures) (λ q. c.if-second_memory-cells_of.true (q ∙ sym c.cells_of-2.ensures))) in record { value = c.refused-then-second_memory-cells_of.ensures ∙ e.0; first_memory_after = e.1.0; second_memory_after = e.1.1 }

pub compare-requires : goal.compare-requires
compare-requires c = record { l_value = (sym c.in-Ok.is ∙ c.locate.ensures, c.if-first_memory-cells_of.false ∙ c.cells_of.ensures); k_value = (sym c.in-Ok-locate.is ∙ c.locate-2.ensures, c.if-second_memory-cells_of.false ∙ c.cells_of-2.ensures) }

pub shape_of-first_memory : goal.shape_of-first_memory
shape_of-first_memory c = c.compare.auto.first_memory

pub shape_of-second_memory : goal.shape_of-second_memory
shape_of-second_memory c = c.compare.auto.second_memory

pub returns : goal.returns
returns c =
    let all = let a = c.args in let r = c.compare in
    parts (both_ended a.first.now a.second.now (play_of a.first.now a.first_memory.now) (play_of a.second.now a.second_memory.now) r.new.first_memory r.new.second_memory r.result r.ensures.value r.ensures.first_memory_after r.ensures.second_memory_after
    ∙ both_play a.first.now a.second.now a.first_memory.now a.second_memory.now _ (sym c.in-Ok.is ∙ c.locate.ensures) _ (sym c.in-Ok-locate.is ∙ c.locate-2.ensures) (c.if-first_memory-cells_of.false ∙ c.cells_of.ensures) (c.if-second_memory-cells_of.false ∙ c.cells_of-2.ensures)) in
    record { value = all.0; first_memory_after = all.1.0; second_memory_after = all.1.1 }
