-- What an accepted step changes in a run: one task's place and number of accesses done, and nothing else.
use Rattle.std.specs.Prelude.{◌≡◌, ℕ, ◌≤◌, ◌<◌}
use Rattle.std.proofs.Math.Path.{refl}
use Rattle.std.proofs.Common.{◌∙◌, arith}
use Rattle.std.proofs.Math.Decide.{ℕ_discrete}
use Rattle.std.proofs.Math.ListN.{length-set}
use Rattle.std.proofs.Math.Seq.{get_or-set_same, get_or-set_other}
use Rattle.codec.specs.Limit.{max_tasks}
use Rattle.pending.specs.declared.Run.{Run}
use Rattle.pending.specs.Run.{blank_task, task_at, advanced, moved_of}
use Rattle.pending.specs.Laws.Sound.{Sound}
use Rattle.pending.specs.Laws.Moved.{Shaped}

module _ (r : Run) (t next : ℕ) where
  pub moved_shaped : Shaped r → Shaped (moved_of r t next)
  unfolding moved_of
  moved_shaped h = length-set r.runs t (advanced (task_at r.runs t) next) ∙ h

  pub moved-own : Shaped r → t < max_tasks → task_at (moved_of r t next).runs t ≡ advanced (task_at r.runs t) next
  unfolding moved_of
  moved-own h k = get_or-set_same r.runs t (advanced (task_at r.runs t) next) blank_task (omega arith)

  pub moved_other : (u : ℕ) → (u ≡ t → ⊥) → task_at (moved_of r t next).runs u ≡ task_at r.runs u
  unfolding moved_of
  moved_other u h = get_or-set_other r.runs t u (advanced (task_at r.runs t) next) blank_task h

  pub moved-tasks : (moved_of r t next).tasks ≡ r.tasks
  unfolding moved_of
  moved-tasks = refl

  pub moved-objects : (moved_of r t next).objects ≡ r.objects
  unfolding moved_of
  moved-objects = refl

  pub moved-fields : (moved_of r t next).fields ≡ r.fields
  unfolding moved_of
  moved-fields = refl

  -- a sound run stays sound if the task had an access left and its next place is within its body
  pub moved_sound : (size : ℕ) → Shaped r → Sound r size → t < r.tasks → (task_at r.runs t).done < (task_at r.runs t).count → next ≤ (task_at r.runs t).end
      → Sound (moved_of r t next) size
  moved_sound size h s b l k = record {
    some_tasks = rw moved-tasks s.some_tasks;
    few_tasks = rw moved-tasks s.few_tasks;
    some_objects = rw moved-objects s.some_objects;
    few_objects = rw moved-objects s.few_objects;
    few_fields = rw moved-fields s.few_fields;
    task = λ u g. elim (ℕ_discrete u t) [
      | yes e ↦
          let f = s.few_tasks in
          rw (e, moved-own h (omega arith)) (record { done = omega arith; place = k; end = (s.task t b).end })
      | no e ↦ rw (moved_other u e) (s.task u (rw moved-tasks at g))
    ];
  }
