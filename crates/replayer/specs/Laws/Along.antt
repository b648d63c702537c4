-- A run on its way through a recording: of each task's body all is left but the accesses it has done. It is so at the start and after each
-- access of a ready task.
use Rattle.std.specs.Prelude.{◌≡◌, true, List, [], ℕ, ◌<◌, length, get_or, drop}
use Rattle.entries.specs.Recording.{Entry}
use Rattle.pending.specs.declared.Run.{Run}
use Rattle.pending.specs.Laws.Moved.{Shaped}
use Rattle.pending.specs.Run.{task_at, done_of}
use Rattle.pending.specs.Sound.{sound_of}
use Rattle.replayer.specs.Laws.Left.{Left}

pub record Along (b : List ℕ) (bodies : List (List Entry)) (r : Run) : Type 0 where
  pub sound : sound_of r (length b) ≡ true
  pub shaped : Shaped r
  pub left : (t : ℕ) → t < r.tasks → Left r b t (drop (done_of r.runs t) (get_or bodies t []))
  pub count : (t : ℕ) → t < r.tasks → (task_at r.runs t).count ≡ length (get_or bodies t [])
