-- What an access may do to Done, Seen, Took and Last (document 01, "other effects") so that other cells stay covered. It is stated for
-- any entry and any two states, so it also applies to an entry that touches no cell.
use Rattle.std.specs.Prelude.{◌≡◌, ◌∷◌, ℕ, ◌≤◌, ◌<◌}
use Rattle.history.specs.Entry.{Entry}
use Rattle.history.specs.History.{History, count}
use Rattle.tracker.specs.State.{done_of, seen_of, took_of}
use Rattle.tracker.specs.Laws.Covers.{Awaits}
use Rattle.tracker.specs.declared.State.{State}

-- Seen of a task changes only if it is the accessing task and the access is ordered after Last.
pub data SeenMoves (e : Entry) (h : History) (s after : State) (task : ℕ) : Type 0 where
  seen-stays : seen_of after task ≡ seen_of s task → SeenMoves e h s after task
  seen_moves : task ≡ e.task → Awaits e h s.last → SeenMoves e h s after task

-- Last changes only to the access itself, which is then ordered after the Last before it.
pub data LastMoves (e : Entry) (h : History) (s after : State) : Type 0 where
  last-stays : after.last ≡ s.last → LastMoves e h s after
  last_moves : after.last.task ≡ e.task → count e.task h < after.last.number → Awaits e h s.last → LastMoves e h s after

pub record Moves (e : Entry) (h : History) (s after : State) : Type 0 where
  pub tasks : after.tasks ≡ s.tasks
  pub done : (task : ℕ) → done_of s task ≤ done_of after task
  pub done_own : count e.task h < done_of after e.task
  pub took : (task : ℕ) → took_of s task ≤ took_of after task
  pub seen : (task : ℕ) → SeenMoves e h s after task
  pub last : LastMoves e h s after
