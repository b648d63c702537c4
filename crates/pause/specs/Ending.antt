-- What is written after the lines of the steps (document 02, F-4): `refused` with number and offset if a step stopped it; `end` and the memory
-- if every access was played; otherwise the block of the pause. On standard error: what the record and the memory hold if a step stopped
-- it; and if every task is held or at its count, what each one that is short of its count waits for.
use Rattle.std.specs.Prelude.{true, cond, List, [], ◌++◌, ℕ, eqb}
use Rattle.pending.specs.declared.Run.{Run}
use Rattle.replayer.specs.ReadyOf.{ready_of}
use Rattle.replay_lines.specs.Block.{block_of}
use Rattle.replay_lines.specs.Lines.{end_line, memory_of, refusal_of}
use Rattle.replay_lines.specs.Streams.{Streams}
use Rattle.scheduler.specs.Finish.{Play, finished_of}
use Rattle.waits.specs.Differ.{differ_of}
use Rattle.waits.specs.Waits.{waits_of}
use Rattle.follow.specs.Follow.{Followed}
use Rattle.follow.specs.Within.{run_within}

unfoldable pub ending_of : List ℕ → Play → List ℕ
ending_of b x = cond (finished_of x.run) (end_line true x.steps ++ memory_of x.memory) (block_of x.steps x.run (ready_of x.run b).word x.memory)

unfoldable pub told_of : List ℕ → Followed → List ℕ
told_of b f = f.text ++ cond (eqb f.stopped.number 0) (ending_of b f.play) (refusal_of f.stopped.number f.stopped.offset)

-- for a run that goes no further than its counts
unfoldable pub waits_at : List ℕ → Run → List ℕ
waits_at b r = cond (eqb (ready_of r b).word 0) (waits_of b r) []

unfoldable pub why_of : List ℕ → List ℕ → Followed → List ℕ
why_of b counts f = cond (eqb f.stopped.number 0) (waits_at b (run_within counts f.play.run)) (differ_of f.play.run.fields b f.play.memory f.stopped.offset)

-- both streams
abbrev pub said_of : List ℕ → List ℕ → Followed → Streams
said_of b counts f = record { text = told_of b f; reasons = why_of b counts f }
