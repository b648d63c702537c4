-- A recording opened and stepped, always the lowest ready task, until a step is not taken: a fold of the replayer's `ready_of` and
-- `step_of`, starting with its `open_of`. A step uses up a record, so as many steps as there are bytes are enough.
use Rattle.std.specs.Prelude.{cond, List, ℕ, zero, suc, eqb, length}
use Rattle.pending.specs.declared.Run.{Run}
use Rattle.replayer.specs.OpenOf.{OpenOutcome, open_of}
use Rattle.replayer.specs.ReadyOf.{ready_of}
use Rattle.replayer.specs.StepOf.{StepOutcome, step_of}
use Rattle.replayer.specs.Word.{lowest_ready}
use Rattle.timed.specs.Digest.{mixed_in, step_word}

-- a replay under way: the run, the lent memory, and the digest of the answers, which starts as the opening's number
pub record Replayed : Type 0 where
  pub run : Run
  pub memory : List ℕ
  pub digest : ℕ

abbrev pub opened : OpenOutcome → Replayed
opened o = record { run = o.answer.run; memory = o.memory; digest = o.answer.number }

abbrev pub stepped : ℕ → ℕ → StepOutcome → Replayed
stepped digest task o = record {
  run = o.answer.run;
  memory = o.memory;
  digest = mixed_in digest (step_word task o.answer.kind o.answer.object o.answer.field o.answer.value o.answer.access);
}

-- the lowest ready task, 16 if there is none
abbrev pub task_next : List ℕ → Replayed → ℕ
task_next b x = lowest_ready (ready_of x.run b).word

abbrev pub step_at : List ℕ → Replayed → Replayed
step_at b x = stepped x.digest (task_next b x) (step_of x.run b x.memory (task_next b x))

-- the number of the access that its step does, 0 if it is not taken
abbrev pub access_next : List ℕ → Replayed → ℕ
access_next b x = (step_of x.run b x.memory (task_next b x)).answer.access

-- at most n steps
unfoldable pub steps_in : ℕ → List ℕ → Replayed → Replayed
steps_in zero b x = x
steps_in (suc n) b x = cond (eqb (access_next b x) 0) x (steps_in n b (step_at b x))

abbrev pub replay_of : List ℕ → List ℕ → Replayed
replay_of b memory = steps_in (length b) b (opened (open_of b memory))
