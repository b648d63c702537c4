-- What is answered about a play to the end, and about whether a run has finished (document 01, "Replay"; document 02, F-3).
use Rattle.std.specs.Prelude.{false, cond, List, ℕ, eqb, length}
use Rattle.codec.specs.Number.{unsound}
use Rattle.entries.specs.declared.Checked.{Checked}
use Rattle.entries.specs.Reading.{numbered}
use Rattle.pending.specs.declared.Run.{Run}
use Rattle.pending.specs.Sound.{sound_of}
use Rattle.playback.specs.declared.finish.Completion.{Completion}
use Rattle.playback.specs.declared.finish.Played.{Played}
use Rattle.replayer.specs.StepOf.{step_of}
use Rattle.scheduler.specs.Finish.{Play, word_at, task_next, finished_of}

-- what stopped a play though a task is ready: the number and the offset of the lowest ready task's step (19 and the read's record); 0 and 0
-- if no task is ready
abbrev pub stopped_of : List ℕ → Play → Checked
stopped_of b x =
    cond (eqb (word_at b x) 0) (numbered 0 0)
    (numbered (step_of x.run b x.memory (task_next b x)).answer.number (step_of x.run b x.memory (task_next b x)).answer.offset)

-- the answer about a play; its memory is the lent one
abbrev pub shown_play : List ℕ → Play → Played
shown_play b x = record { tasks = x.run.tasks; objects = x.run.objects; steps = x.steps; finished = finished_of x.run; stopped = stopped_of b x }

-- the answer about a run over these bytes: 17 if it is unsound (document 01, "Number table")
unfoldable pub finished_call : Run → List ℕ → Completion
finished_call r b = cond (sound_of r (length b)) (record { number = 0; finished = finished_of r }) (record { number = unsound; finished = false })
