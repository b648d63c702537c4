use mathlib.Core.Path.{sym, ◌∙◌}
use Rattle.pending.specs.Laws.Moved.{Shaped}
use Rattle.scheduler.proofs.Laws.Columns.{columns_told}
use Rattle.playback.specs.Shown.{finished_call}
use borrow.Author.Rules.{rules}
use Rattle.playback.proofs.finish.finished.Goals as goal
use Rattle.playback.proofs.finish.finished.Goals.{Start}

pub returns-then-not-sound : goal.returns-then-not-sound
unfolding finished_call
returns-then-not-sound c = rw (sym c.sound.ensures ∙ c.if-not-sound.true, c.number.ensures)

-- the run's array has 16 entries
shaped : (c : Start) → Shaped c.args.run
shaped c = search rules

pub returns : goal.returns
unfolding finished_call
returns c = let k = c.columns_of-c in
    rw (sym c.sound.ensures ∙ c.if-not-sound.false, c.all_done.ensures, columns_told c.args.run k.result k.ensures (shaped (goal.at.returns c).Start))
