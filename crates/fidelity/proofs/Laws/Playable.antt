-- A box's own recording can be played to its end: from demand 3, by which a play of it ends with no access left.
use Rattle.std.specs.Prelude.{Bool, true, false, not, List, ◌≡◌, refl, ℕ, ◌<◌, length, replicate}
use Rattle.std.proofs.Common.{sym, ◌∙◌, arith}
use Rattle.std.proofs.lemmas.List.{length-replicate}
use Rattle.codec.specs.Laws.Decide.{never}
use Rattle.entries.specs.Accesses.{accesses_in}
use Rattle.pending.proofs.Laws.All.{all_facts}
use Rattle.pending.proofs.Laws.Sound.{sound_facts}
use Rattle.replayer.proofs.Laws.Along.{along_opened}
use Rattle.replayer.proofs.Laws.OpenOf.{open_accepts}
use Rattle.replayer.specs.OpenOf.{opened_run}
use Rattle.replayer.specs.ReadyOf.{has_left}
use Rattle.scheduler.specs.Finish.{is_done, tasks_in, finished_of}
use Rattle.scheduler.proofs.Laws.Settled.{settled_along}
use Rattle.scheduler.specs.Schedule.{schedule_of, settled_of}
use Rattle.playability.proofs.Laws.Counted.{plays-length}
use Rattle.playability.proofs.Laws.Theorem.{free_plays, playable_answers}
use Rattle.playability.specs.Order.{Plays}
use Rattle.fidelity.specs.Box.{Opening, Asked, recorded, recording_of, cells_by}
use Rattle.fidelity.specs.Laws.BoxMatches.{parsed_by}
use Rattle.fidelity.proofs.Laws.BoxMatches.{recording-parsed, cells_each}
use Rattle.fidelity.proofs.Laws.LowestFirst.{box_settled, box-steps, box-finished}
use Rattle.fidelity.specs.Playable.{Packed, BoxPlays}
use Rattle.fidelity.specs.Statement.{Accepted}

not_done : (x : Bool) → not x ≡ true → x ≡ false
not_done true h = absurd (let z : ◌≡◌ {A = Bool} false true = h in never true refl (sym z))
not_done false h = refl

module _ (o : Opening) (asked : List Asked) (outs : ℕ → List ℕ) (w : Packed o asked outs) where
  abbrev bytes : List ℕ
  bytes = recording_of o asked outs

  abbrev lent : List ℕ
  lent = replicate {A = ℕ} (cells_by o) 0

  lent-each : length lent ≡ cells_by o
  lent-each = length-replicate {A = ℕ} (cells_by o) 0

  accepted : Accepted o asked outs lent
  accepted = record {
    opened = w.opened;
    packed = w.packed;
    replayed = rw (open_accepts bytes lent (parsed_by o asked) (recording-parsed o w.opened asked outs w.packed) (lent-each ∙ sym (cells_each o w.opened)));
  }

  -- the run after the order has finished
  finished : finished_of (settled_of bytes (opened_run (parsed_by o asked))) ≡ true
  finished =
      let e = recording-parsed o w.opened asked outs w.packed in
      rw (← box_settled o asked outs lent accepted lent-each (parsed_by o asked) e refl)
      (box-finished o asked outs lent accepted lent-each (parsed_by o asked) e refl)

  pub box-none-left : (t : ℕ) → t < (settled_of bytes (opened_run (parsed_by o asked))).tasks → has_left (settled_of bytes (opened_run (parsed_by o asked))) t ≡ false
  box-none-left t h =
      let e = recording-parsed o w.opened asked outs w.packed in
      let r = settled_of bytes (opened_run (parsed_by o asked)) in
      let f = (sound_facts _ _ (settled_along bytes (parsed_by o asked).recording.bodies (opened_run (parsed_by o asked)) (along_opened bytes (parsed_by o asked) e)).sound).few_tasks in
      not_done (has_left r t) (all_facts (is_done r) (tasks_in r.tasks) finished t (omega (arith, h, f)))

  plays : Plays (parsed_by o asked).recording.bodies (schedule_of bytes (opened_run (parsed_by o asked)))
  plays = free_plays bytes (parsed_by o asked) (recording-parsed o w.opened asked outs w.packed) box-none-left

  -- the number of accesses
  recorded_each : accesses_in (parsed_by o asked).recording.bodies ≡ length (recorded o asked)
  recorded_each =
      sym (plays-length (parsed_by o asked).recording.bodies (schedule_of bytes (opened_run (parsed_by o asked))) plays)
      ∙ box-steps o asked outs lent accepted lent-each (parsed_by o asked) (recording-parsed o w.opened asked outs w.packed) refl

  pub box-plays : (out : List ℕ) → BoxPlays o asked outs out
  box-plays out =
      let e = recording-parsed o w.opened asked outs w.packed in
      let p = parsed_by o asked in
      let a = playable_answers bytes out in
      let order = schedule_of bytes (opened_run p) in
      record {
        never_held = λ z. (a.without_order p e).0 z order plays;
        with_room = λ h.
            let z = (a.accepted p e).1 ((order, plays), omega (arith, h, recorded_each)) in
            (z, (a.order_written p e z).3 ∙ recorded_each);
        without = λ h. (a.no_room_left p e).1 ((order, plays), omega (arith, h, recorded_each));
      }
