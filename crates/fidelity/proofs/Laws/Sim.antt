-- A run over bytes corresponds to the replay of the history they record: the relation between the two, which every step keeps.
use Rattle.std.specs.Prelude.{Err, true, List, [], ◌∷◌, ◌≡◌, ℕ, suc, ◌<◌, length, get_or}
use Rattle.std.proofs.Math.Option.{Option, some, none}
use Rattle.std.proofs.Math.Path.{refl}
use Rattle.std.proofs.Common.{arith}
use borrow.Author.Tests.{ltb-true, lt-ltb, le-ltb}
use Rattle.codec.specs.declared.Position.{Position}
use Rattle.history.specs.Entry.{Entry}
use Rattle.history.specs.History.{History, count}
use Rattle.history.proofs.Laws.Access.{access_bound}
use Rattle.history.specs.Replay.{State, next, all_met, is_ready}
use Rattle.history.proofs.Laws.Ready.{next-access, next-none}
use Rattle.history.specs.Laws.Run.{Kept}
use Rattle.entries.specs.declared.Refusal.{Refusal}
use Rattle.pending.specs.declared.TaskRun.{TaskRun}
use Rattle.replayer.specs.Laws.Left.{Left}
use Rattle.replayer.proofs.Laws.Left.{left-entry}
use Rattle.pending.specs.Met.{all_met as all_met_by}
use Rattle.pending.specs.Laws.Moved.{Shaped}
use Rattle.pending.specs.Next.{entry_next, next_of}
use Rattle.pending.proofs.Laws.Next.{open_met, judged-reads}
use Rattle.replayer.specs.ReadyOf.{has_left, is_ready as is_ready_by}
use Rattle.pending.specs.Run.{task_at, done_of, cell_count}
use Rattle.pending.specs.Sound.{sound_of}
use Rattle.fidelity.specs.Bench.{Bench}
use Rattle.fidelity.specs.Filed.{filed}
use Rattle.fidelity.specs.Laws.LeftOver.{left_of}
use Rattle.fidelity.proofs.Laws.LeftOver.{left-next}
use Rattle.fidelity.specs.Laws.Sim.{Sim}

met-same : (runs : List TaskRun) (done : ℕ → ℕ) (l : List Position) → ((t : ℕ) → done_of runs t ≡ done t) → all_met_by runs l ≡ all_met done l
unfolding all_met_by
met-same runs done [] e = refl
met-same runs done (p ∷ l) e = rw (e p.task, met-same runs done l e)

module _ (start : ℕ → ℕ) (h : History) (bytes : List ℕ) (tasks cells fields : ℕ) (s : State) (b : Bench) (i : Sim start h bytes tasks cells fields s b) (t : ℕ) (low : t < tasks) where
  -- a task is ready on the bench exactly when it is ready in the history's replay
  pub sim_ready : is_ready_by b.run bytes t ≡ is_ready h s t
  unfolding is_ready_by next_of
  sim_ready = go (next t (s.done t) h) refl
    where
      go : (o : Option Entry) → next t (s.done t) h ≡ o → is_ready_by b.run bytes t ≡ is_ready h s t
      go none p =
          let l = next-none t (s.done t) h p in
          rw (p, le-ltb (task_at b.run.runs t).done (task_at b.run.runs t).count (omega (arith, i.done t, i.counts t low)))
      go (some e) p =
          let l = access_bound (next-access t (s.done t) h e p) in
          let w : Left b.run bytes t (filed fields e ∷ left_of fields t (suc (s.done t)) h) = rw (left-next fields t (s.done t) h e p) at (i.left t low) in
          rw (
            p,
            lt-ltb (task_at b.run.runs t).done (task_at b.run.runs t).count (omega (arith, i.done t, i.counts t low)),
            open_met b.run.runs (task_at b.run.runs t).place (entry_next b.run bytes t) (filed fields e) (left-entry b.run bytes t (filed fields e) _ w),
          ) (met-same b.run.runs s.done e.orderings i.done)

  -- what is next for a task that has accesses left can be read
  pub sim_reads : has_left b.run t ≡ true → (c : Refusal) → next_of b.run bytes t ≡ Err c → ⊥
  unfolding next_of
  sim_reads q c r = go (next t (s.done t) h) refl
    where
      go : (o : Option Entry) → next t (s.done t) h ≡ o → ⊥
      go none p = omega (arith, next-none t (s.done t) h p, i.done t, i.counts t low, ltb-true (task_at b.run.runs t).done (task_at b.run.runs t).count q)
      go (some e) p =
          let w : Left b.run bytes t (filed fields e ∷ left_of fields t (suc (s.done t)) h) = rw (left-next fields t (s.done t) h e p) at (i.left t low) in
          judged-reads b.run.runs (task_at b.run.runs t).place (entry_next b.run bytes t) (filed fields e) (left-entry b.run bytes t (filed fields e) _ w) c r
