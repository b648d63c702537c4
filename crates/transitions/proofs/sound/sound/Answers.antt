use Rattle.std.proofs.Common.{◌≡◌, sym, ap, ◌∙◌, ◌<◌, arith, length-take, get_or-take}
use Rattle.tracker.specs.Sound.{cell_sound_at}
use Rattle.tracker.specs.Laws.Scan.{counters_sound}
use Rattle.tracker.proofs.Laws.Scan.{scan_none, scan_more, scan_bad, scan_off, scan_low, scan_over}
use Rattle.transitions.proofs.sound.sound.Goals as goal
use Rattle.transitions.proofs.sound.sound.Goals.{After-cell_sound, In-loop-record}

pub returns-then-not-counters_sound : goal.returns-then-not-counters_sound
returns-then-not-counters_sound c = sym (scan_off _ (ap counters_sound (sym c.counters_of-counters.ensures) ∙ sym c.counters_sound.ensures ∙ c.if-not-counters_sound.true))

pub loop-record-init : goal.loop-record-init
loop-record-init c = (omega arith, sym (scan_none _) ∙ ap counters_sound (sym c.counters_of-counters.ensures) ∙ sym c.counters_sound.ensures ∙ c.if-not-counters_sound.false)

-- the cells that are scanned are below the number that have a record
inside : (c : In-loop-record) → c.loop-record.record-index < c.cells_in-cells.result
inside c = omega (arith, length-take c.cells_in-cells.result c.args.state.now.cells, c.loop-record-test.true)

-- a cell's test
tested : (c : After-cell_sound) → c.cell_sound.result ≡ cell_sound_at c.args.state.now c.loop-record.record-index
tested c = rw (c.counters_of-counters.ensures, get_or-take c.cells_in-cells.result c.args.state.now.cells c.loop-record.record-index _ (inside (goal.at.After-cell_sound c).In-loop-record)) at c.cell_sound.ensures

pub returns-then-not-cell_sound : goal.returns-then-not-cell_sound
returns-then-not-cell_sound c = let low = scan_low c.args.state.now _ c.counters_of-counters.ensures _ c.cells_in-cells.ensures c.loop-record.record-index (inside (goal.at.returns-then-not-cell_sound c).In-loop-record) in
    sym (scan_bad _ _ low.1 (sym (tested (goal.at.returns-then-not-cell_sound c).After-cell_sound) ∙ c.if-not-cell_sound.true))

pub loop-record-preserved : goal.loop-record-preserved
loop-record-preserved c = let l = c.loop-record in
    (omega arith, sym (scan_more _ l.record-index (sym (tested (goal.at.loop-record-preserved c).After-cell_sound) ∙ c.if-not-cell_sound.false)) ∙ l.invariant.1)

pub returns : goal.returns
returns c = let l = c.loop-record in
    sym l.invariant.1 ∙ scan_over _ _ c.counters_of-counters.ensures _ c.cells_in-cells.ensures l.record-index l.invariant.0 (omega (arith, length-take c.cells_in-cells.result c.args.state.now.cells, c.loop-record-test.false))
