-- The cases of how a list of steps ended.
use Rattle.std.specs.Prelude.{◌≡◌, true, false, List, [], ◌++◌, ℕ, ◌+◌, length}
use Rattle.std.proofs.Common.{eq-eqb, ne_eqb, length-append}
use Rattle.pending.specs.declared.Run.{Run}
use Rattle.pending.specs.Laws.Sound.{Sound}
use Rattle.pending.proofs.Laws.Sound.{sound_test}
use Rattle.playback.specs.declared.finish.Completion.{Completion}
use Rattle.playback.specs.Shown.{finished_call}
use Rattle.replayer.specs.ReadyOf.{ready_of}
use Rattle.replay_lines.specs.Block.{block_of}
use Rattle.replay_lines.specs.Lines.{end_line, memory_of}
use Rattle.scheduler.specs.Finish.{Play, finished_of}
use Rattle.waits.specs.Waits.{waits_of}
use Rattle.pause.specs.Ending.{ending_of, waits_at}

-- the call answers whether a sound run has finished
pub finished-is : (b : List ℕ) (r : Run) → Sound r (length b) → (f : Completion) → f ≡ finished_call r b → finished_of r ≡ f.finished
unfolding finished_call
finished-is b r s f e = rw (e, sound_test r (length b) s)

module _ (b : List ℕ) (x : Play) where
  pub ending_done : finished_of x.run ≡ true → ending_of b x ≡ end_line true x.steps ++ memory_of x.memory
  unfolding ending_of
  ending_done p = rw p

  pub done_room : finished_of x.run ≡ true → length (ending_of b x) ≡ length (end_line true x.steps) + length (memory_of x.memory)
  done_room p = rw (ending_done p) (length-append (end_line true x.steps) (memory_of x.memory))

  pub ending_paused : finished_of x.run ≡ false → ending_of b x ≡ block_of x.steps x.run (ready_of x.run b).word x.memory
  unfolding ending_of
  ending_paused p = rw p

pub waits_ready : (b : List ℕ) (r : Run) → ((ready_of r b).word ≡ 0 → ⊥) → waits_at b r ≡ []
unfolding waits_at
waits_ready b r z = rw (ne_eqb (ready_of r b).word 0 z)

pub waits_held : (b : List ℕ) (r : Run) → (ready_of r b).word ≡ 0 → waits_at b r ≡ waits_of b r
unfolding waits_at
waits_held b r z = rw (eq-eqb (ready_of r b).word 0 z)
