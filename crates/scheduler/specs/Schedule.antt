-- The order of "lowest ready task first" (document 01, "Replay"): the tasks it steps, one after another, until no task is ready. Which
-- tasks are ready does not depend on the memory, and neither does the order. An unsound run has no ready task.
use Rattle.std.specs.Prelude.{Some, None, Ok, Err, cond, List, [], ◌∷◌, ℕ, zero, suc, eqb}
use Rattle.pending.specs.declared.Run.{Run}
use Rattle.scheduler.specs.Finish.{Play, left_over, takes_step, stepped_by}
use Rattle.pending.specs.Next.{Next, next_of}
use Rattle.replayer.specs.ReadyOf.{ready_of}
use Rattle.pending.specs.Run.{moved_of}
use Rattle.replayer.specs.Word.{lowest_ready}

abbrev pub next_task : List ℕ → Run → ℕ
next_task b r = lowest_ready (ready_of r b).word

-- the run after a task's next access
unfoldable pub behind_of : Run → ℕ → Next → Run
behind_of r t (Ok (Some w)) = moved_of r t w.next
behind_of r t (Ok None) = r
behind_of r t (Err c) = r

-- at most n steps
unfoldable pub schedule_from : ℕ → List ℕ → Run → List ℕ
schedule_from zero b r = []
schedule_from (suc fuel) b r =
    cond (eqb (ready_of r b).word 0) [] (next_task b r ∷ schedule_from fuel b (behind_of r (next_task b r) (next_of r b (next_task b r))))

-- each step takes an access, so as many steps as accesses are left are enough
abbrev pub schedule_of : List ℕ → Run → List ℕ
schedule_of b r = schedule_from (left_over r) b r

-- the run after a list of steps without a memory: each task moves on over its next access if that may be done
unfoldable pub ran_by : List ℕ → Run → List ℕ → Run
ran_by b r [] = r
ran_by b r (t ∷ ts) = ran_by b (behind_of r t (next_of r b t)) ts

-- the run after the order
abbrev pub settled_of : List ℕ → Run → Run
settled_of b r = ran_by b r (schedule_of b r)

-- a play after a list of steps, up to the first that is not taken
unfoldable pub played_by : List ℕ → Play → List ℕ → Play
played_by b x [] = x
played_by b x (t ∷ ts) = cond (takes_step b x t) (played_by b (stepped_by b x t) ts) x
