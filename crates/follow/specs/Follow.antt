-- A list of steps followed on a bench that can be paused (document 02, F-4). It stops after a number of steps taken, or where all tasks are
-- at their counts. A step of a task that is at its count is left out. A step that is taken has its line. One that gives 5, 15 or 16 is told
-- and passed; any other number stops it. The steps may name any tasks, and how they are chosen is not part of this.
use Rattle.std.specs.Prelude.{Bool, cond, ◌||◌, List, [], ◌∷◌, ◌++◌, ℕ, eqb, leb}
use Rattle.codec.specs.Number.{no_task, finished, held}
use Rattle.entries.specs.declared.Checked.{Checked}
use Rattle.entries.specs.Reading.{numbered}
use Rattle.replayer.specs.declared.Stepped.{Stepped}
use Rattle.replayer.specs.StepOf.{step_of}
use Rattle.replay_lines.specs.Block.{turned_line}
use Rattle.replay_lines.specs.Lines.{line_of}
use Rattle.scheduler.specs.Finish.{Play, takes_step, stepped_by}
use Rattle.follow.specs.Within.{is_there, all_there}

-- the lines, the play after the steps, and the number and offset that stopped it, 0 and 0 if none did
pub record Followed : Type 0 where
  pub text : List ℕ
  pub play : Play
  pub stopped : Checked

-- the play stays where it is, and nothing is written
abbrev pub resting : Play → Followed
resting x = record { text = []; play = x; stopped = numbered 0 0 }

-- some lines, and then what follows them
abbrev pub in_front : List ℕ → Followed → Followed
in_front lines f = record { text = lines ++ f.text; play = f.play; stopped = f.stopped }

-- no such task, nothing left for it, held
abbrev pub is_passed : ℕ → Bool
is_passed number = eqb number no_task || (eqb number finished || eqb number held)

abbrev pub answer_at : List ℕ → Play → ℕ → Stepped
answer_at b x t = (step_of x.run b x.memory t).answer

-- one step
unfoldable pub tried_of : List ℕ → Play → ℕ → Followed
tried_of b x t =
    cond (takes_step b x t) (record { text = line_of t (answer_at b x t); play = stepped_by b x t; stopped = numbered 0 0 })
    (cond (is_passed (answer_at b x t).number) (record { text = turned_line t (answer_at b x t).number; play = x; stopped = numbered 0 0 })
    (record { text = []; play = x; stopped = numbered (answer_at b x t).number (answer_at b x t).offset }))

-- where it stops: after `most` steps, or with all tasks at their counts
abbrev pub is_over : ℕ → List ℕ → Play → Bool
is_over most counts x = leb most x.steps || all_there counts x.run

unfoldable pub followed_of : List ℕ → ℕ → List ℕ → Play → List ℕ → Followed
followed_of b most counts x [] = resting x
followed_of b most counts x (t ∷ steps) =
    cond (is_over most counts x) (resting x)
    (cond (is_there counts x.run t) (followed_of b most counts x steps)
    (cond (eqb (tried_of b x t).stopped.number 0) (in_front (tried_of b x t).text (followed_of b most counts (tried_of b x t).play steps)) (tried_of b x t)))
