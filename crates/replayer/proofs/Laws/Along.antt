-- A run on its way through a recording: of each task's body all is left but the accesses it has done. It is so at the start and after each
-- access of a ready task.
use Rattle.std.specs.Prelude.{Ok, ◌≡◌, List, [], ◌∷◌, ℕ, suc, ◌+◌, ◌<◌, length, get_or, drop}
use Rattle.std.proofs.Common.{sym, ap, ◌∙◌, add-one, arith, drop-cons}
use Rattle.std.proofs.Math.Decide.{ℕ_discrete}
use Rattle.codec.specs.declared.Op.{Op}
use Rattle.codec.specs.Limit.{max_tasks}
use Rattle.entries.specs.Bytes.{entry_length}
use Rattle.entries.specs.Recording.{Entry, no_entry}
use Rattle.reader.specs.Parse.{Parsed, parse}
use Rattle.pending.specs.declared.Run.{Run}
use Rattle.pending.specs.declared.TaskRun.{TaskRun}
use Rattle.pending.proofs.Laws.Moved.{moved_shaped, moved-own, moved_other, moved-tasks, moved_sound}
use Rattle.pending.proofs.Laws.Next.{next-entry, next-within}
use Rattle.pending.proofs.Laws.Sound.{sound_facts, sound_test}
use Rattle.pending.specs.Next.{may_go, entry_next, next_of}
use Rattle.pending.specs.Run.{task_at, done_of, moved_of}
use Rattle.replayer.specs.OpenOf.{opened_run}
use Rattle.replayer.specs.Laws.Left.{Left}
use Rattle.replayer.proofs.Laws.Left.{left-entry, left-own, left_other, left-opened}
use Rattle.replayer.proofs.Laws.OpenOf.{opened-stands}
use Rattle.replayer.specs.Laws.Along.{Along}

pub along_opened : (b : List ℕ) (p : Parsed) → parse b ≡ Ok p → Along b p.recording.bodies (opened_run p)
along_opened b p e =
    let s = opened-stands b p e in
    record {
      sound = s.sound;
      shaped = s.shaped;
      left = λ t h. rw (s.done t) (left-opened b p e t h).left;
      count = λ t h. (left-opened b p e t h).count;
    }

module _ (b : List ℕ) (bodies : List (List Entry)) (r : Run) (w : Along b bodies r) (t : ℕ) (h : t < r.tasks) (l : (task_at r.runs t).done < (task_at r.runs t).count) where
  abbrev next_entry : Entry
  next_entry = get_or (get_or bodies t []) (done_of r.runs t) no_entry

  -- what is left begins with the next access
  left-first : Left r b t (next_entry ∷ drop (suc (done_of r.runs t)) (get_or bodies t []))
  left-first = rw (← drop-cons (get_or bodies t []) (done_of r.runs t) no_entry (omega (arith, w.count t h))) (w.left t h)

  pub along_entry : entry_next r b t ≡ Ok (get_or (get_or bodies t []) (done_of r.runs t) no_entry)
  along_entry = left-entry r b t _ _ left-first

  module _ (op : Op) (next : ℕ) (o : next_of r b t ≡ may_go op next) where
    few : t < max_tasks
    few = omega (arith, (sound_facts r (length b) w.sound).few_tasks)

    -- the place after it
    pub along_place : next ≡ (task_at r.runs t).place + entry_length (get_or (get_or bodies t []) (done_of r.runs t) no_entry)
    along_place =
        let n = next-entry r b t op next o in
        let q = sym n.reads ∙ along_entry in
        let e : n.entry ≡ next_entry = cc in
        n.next ∙ ap (λ (f : Entry). (task_at r.runs t).place + entry_length f) e

    own : Left (moved_of r t next) b t (drop (done_of (moved_of r t next).runs t) (get_or bodies t []))
    own =
        let d : done_of (moved_of r t next).runs t ≡ suc (done_of r.runs t) = ap (λ (y : TaskRun). y.done) (moved-own r t next w.shaped few) ∙ add-one _ in
        rw (d, along_place) (left-own r b t _ _ w.shaped few left-first)

    -- an access of a ready task
    pub along_moved : Along b bodies (moved_of r t next)
    along_moved = record {
      sound = sound_test (moved_of r t next) (length b)
          (moved_sound r t next (length b) w.shaped (sound_facts r (length b) w.sound) h l (next-within r b t op next o ((sound_facts r (length b) w.sound).task t h).end).1);
      shaped = moved_shaped r t next w.shaped;
      left = λ u g. elim (ℕ_discrete u t) [
        | yes e ↦ rw e own
        | no e ↦
            let d : done_of (moved_of r t next).runs u ≡ done_of r.runs u = ap (λ (y : TaskRun). y.done) (moved_other r t next u e) in
            rw d (left_other r b u t next _ e (w.left u (rw moved-tasks at g)))
      ];
      count = λ u g. elim (ℕ_discrete u t) [
        | yes e ↦ rw (e, moved-own r t next w.shaped few) (w.count t h)
        | no e ↦ rw (moved_other r t next u e) (w.count u (rw moved-tasks at g))
      ];
    }
