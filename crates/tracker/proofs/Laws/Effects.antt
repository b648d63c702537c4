-- What a row leaves in Done, Seen, Took and Last (document 01, "other effects"), as one record of equations; and when such a change keeps
-- other cells covered.
use Rattle.std.specs.Prelude.{Bool, ◌≡◌, ℕ, ◌+◌, ◌≤◌, ◌<◌}
use Rattle.std.proofs.Common.{arith}
use Rattle.std.proofs.Math.Decide.{ℕ_discrete}
use Rattle.codec.specs.Limit.{max_tasks}
use Rattle.history.specs.Entry.{Entry}
use Rattle.history.specs.History.{History, count}
use Rattle.tracker.specs.State.{done_of, seen_of, took_of, locality_of}
use Rattle.tracker.specs.Laws.State.{Shaped}
use Rattle.tracker.specs.Row.{row_at}
use Rattle.tracker.specs.Next.{Effect, unchanged, effect_of, state_after}
use Rattle.tracker.proofs.Laws.After.{next-tasks, next-done, next-seen, next-took, next_last, other_done, other_seen, other_took}
use Rattle.tracker.specs.Laws.Moves.{SeenMoves, seen-stays, LastMoves, last-stays, Moves}
use Rattle.tracker.specs.declared.State.{State}
use Rattle.tracker.specs.Laws.Effects.{Leaves}

pub next_leaves : (s : State) (task cell : ℕ) (write : Bool) → Shaped s → task < max_tasks
    → Leaves s task (effect_of (row_at s task cell write) s task (locality_of s cell)) (state_after s task cell write)
next_leaves s task cell write shaped low = record {
  tasks = next-tasks s task cell write;
  done = next-done s task cell write shaped low;
  seen = next-seen s task cell write shaped low;
  took = next-took s task cell write shaped low;
  last = next_last s task cell write;
  other_done = other_done s task cell write;
  other_seen = other_seen s task cell write;
  other_took = other_took s task cell write;
}

module _ {e : Entry} {h : History} {s after : State} {effect : Effect} (k : Leaves s e.task effect after) (number : done_of s e.task ≡ count e.task h) where
  pub moves : took_of s e.task ≤ effect.took → SeenMoves e h s after e.task → LastMoves e h s after → Moves e h s after
  moves rises seen last = record {
    tasks = k.tasks;
    done = λ task. elim (ℕ_discrete task e.task) [
      | yes p ↦ rw p (omega (arith, k.done))
      | no p ↦ omega (arith, k.other_done task p)
    ];
    done_own = omega (arith, k.done);
    took = λ task. elim (ℕ_discrete task e.task) [
      | yes p ↦ rw p (omega (arith, k.took))
      | no p ↦ omega (arith, k.other_took task p)
    ];
    seen = λ task. elim (ℕ_discrete task e.task) [
      | yes p ↦ rw p seen
      | no p ↦ seen-stays (k.other_seen task p)
    ];
    last = last;
  }

-- rows that leave Seen, Took and Last unchanged
pub plain_moves : {e : Entry} {h : History} {s after : State} → Leaves s e.task (unchanged s e.task) after → done_of s e.task ≡ count e.task h
    → Moves e h s after
plain_moves k number = moves k number (omega arith) (seen-stays k.seen) (last-stays k.last)
