-- A run over bytes corresponds to the replay of the history they record: the relation between the two, which every step keeps.
use Rattle.std.specs.Prelude.{true, List, [], ◌∷◌, ◌≡◌, ℕ, ◌<◌, length, get_or}
use Rattle.history.specs.History.{History, count}
use Rattle.history.specs.Replay.{State}
use Rattle.history.specs.Laws.Run.{Kept}
use Rattle.replayer.specs.Laws.Left.{Left}
use Rattle.pending.specs.Laws.Moved.{Shaped}
use Rattle.pending.specs.Run.{task_at, done_of, cell_count}
use Rattle.pending.specs.Sound.{sound_of}
use Rattle.fidelity.specs.Bench.{Bench}
use Rattle.fidelity.specs.Laws.LeftOver.{left_of}

pub record Sim (start : ℕ → ℕ) (h : History) (bytes : List ℕ) (tasks cells fields : ℕ) (s : State) (b : Bench) : Type 0 where
  pub kept : Kept start h s
  pub sound : sound_of b.run (length bytes) ≡ true
  pub shaped : Shaped b.run
  pub tasks_same : b.run.tasks ≡ tasks
  pub fields_same : b.run.fields ≡ fields
  pub cells_same : cell_count b.run ≡ cells
  pub entries : length b.memory ≡ cells
  pub done : (t : ℕ) → done_of b.run.runs t ≡ s.done t
  pub counts : (t : ℕ) → t < tasks → (task_at b.run.runs t).count ≡ count t h
  pub left : (t : ℕ) → t < tasks → Left b.run bytes t (left_of fields t (s.done t) h)
  pub memory : (c : ℕ) → c < cells → get_or b.memory c 0 ≡ s.memory c
