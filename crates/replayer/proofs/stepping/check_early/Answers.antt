use native.Mathlib.Omega.{arith}
use mathlib.Core.Path.{sym, ◌∙◌}
use Rattle.pending.proofs.Laws.Sound.{sound_facts}
use Rattle.replayer.proofs.stepping.check_early.Goals as goal

pub cells_of-requires : goal.cells_of-requires
cells_of-requires c = let w = sound_facts c.args.run c.args.size (sym c.sound.ensures ∙ c.if-not-sound.false) in (omega (arith, w.few_fields), omega (arith, w.few_objects))

pub offset_bounds-run-task : goal.offset_bounds-run-task
offset_bounds-run-task c = omega (arith, (sound_facts c.args.run c.args.size (sym c.sound.ensures ∙ c.if-not-sound.false)).few_tasks, c.if-run-task.false)

pub bounds-run-task : goal.bounds-run-task
bounds-run-task c = omega (arith, (sound_facts c.args.run c.args.size (sym c.sound.ensures ∙ c.if-not-sound.false)).few_tasks, c.if-run-task.false)
