-- The order of a play: it is the order in which the play to the end steps the tasks, up to the first step that is not taken; if no task is
-- ready at the end, each of its steps is taken.
use Rattle.std.specs.Prelude.{◌≡◌, true, List, [], ◌∷◌, ℕ}
use Rattle.scheduler.specs.Finish.{Play, takes_step, stepped_by, goes_on, onward}
use Rattle.scheduler.specs.Laws.Finish.{Playing}
use Rattle.pending.specs.Run.{moved_of}
use Rattle.scheduler.specs.Schedule.{played_by}
use Rattle.replayer.specs.StepOf.{step_of}

-- each step of a list is taken in its place: its number is 0
unfoldable pub AllTaken : List ℕ → Play → List ℕ → Type 0
AllTaken b x [] = Unit {0}
AllTaken b x (t ∷ ts) = ((step_of x.run b x.memory t).answer.number ≡ 0) × AllTaken b (stepped_by b x t) ts

-- a play is a list of taken steps
pub record StepsTo (b : List ℕ) (x y : Play) : Type 0 where
  pub steps : List ℕ
  pub all : AllTaken b x steps
  pub leads : played_by b x steps ≡ y

-- the step of the next task is the play's own
pub record StepTaken (b : List ℕ) (x : Play) (t next : ℕ) : Type 0 where
  pub number : (step_of x.run b x.memory t).answer.number ≡ 0
  pub run : moved_of x.run t next ≡ (stepped_by b x t).run
  pub goes : goes_on b x ≡ true
  pub takes : takes_step b x t ≡ true
  pub same : onward b x ≡ stepped_by b x t
  pub playing : Playing b (stepped_by b x t)
