use native.Mathlib.Omega.{arith}
use mathlib.Core.Path.{◌≡◌, sym, ap, ◌∙◌}
use Rattle.reader.specs.Laws.Located.{reads}
use Rattle.playback.specs.ToEnd.{EndOutcome, play_of}
use Rattle.playback.specs.Laws.ToEndCode.{ends_so, end-bytes, end-length, end-plays}
use Rattle.playback.proofs.to_end.replay_to_end.Goals as goal

-- a known outcome, in the two parts that are needed
parts : {x y : EndOutcome} → x ≡ y → (x.answer ≡ y.answer) × (x.memory ≡ y.memory)
parts e = (ap (λ (o : EndOutcome). o.answer) e, ap (λ (o : EndOutcome). o.memory) e)

pub returns-in-Err : goal.returns-in-Err
returns-in-Err c = let a = c.args in let e = parts (end-bytes a.bytes.now a.memory.now _ (sym c.in-Err.is ∙ c.locate.ensures)) in record { value = c.refused.ensures ∙ e.0; memory_after = e.1 }

pub cells_of-requires : goal.cells_of-requires
cells_of-requires c = let w = reads c.args.bytes.now _ (sym c.in-Ok.is ∙ c.locate.ensures) in (omega (arith, w.few_fields), omega (arith, w.few_objects))

pub returns-then-memory-cells_of : goal.returns-then-memory-cells_of
returns-then-memory-cells_of c = let a = c.args in let e = parts (end-length a.bytes.now a.memory.now _ (sym c.in-Ok.is ∙ c.locate.ensures) (λ q. c.if-memory-cells_of.true (q ∙ sym c.cells_of.ensures))) in record { value = c.refused-then-memory-cells_of.ensures ∙ e.0; memory_after = e.1 }

pub play-p-requires : goal.play-p-requires
play-p-requires c = (sym c.in-Ok.is ∙ c.locate.ensures, c.if-memory-cells_of.false ∙ c.cells_of.ensures)

pub shape_of-memory : goal.shape_of-memory
shape_of-memory c = c.play-p.auto.memory

pub returns : goal.returns
returns c =
    let both = let a = c.args in let p = c.play-p in
    parts (ends_so a.bytes.now (play_of a.bytes.now a.memory.now) p.result p.new.memory p.ensures.value p.ensures.memory_after
    ∙ end-plays a.bytes.now a.memory.now _ (sym c.in-Ok.is ∙ c.locate.ensures) (c.if-memory-cells_of.false ∙ c.cells_of.ensures)) in
    record { value = both.0; memory_after = both.1 }
