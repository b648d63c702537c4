-- Laws of `Sound`.
use Rattle.std.specs.Prelude.{◌≡◌, true, ℕ, leb}
use Rattle.std.proofs.Common.{leb-true, le-leb}
use Rattle.codec.specs.Laws.Decide.{both_pass}
use Rattle.codec.specs.Limit.{max_tasks, max_objects, max_fields, is_within}
use Rattle.codec.specs.Laws.Limit.{within_facts, within_test}
use Rattle.pending.specs.declared.TaskRun.{TaskRun}
use Rattle.pending.specs.declared.Run.{Run}
use Rattle.pending.proofs.Laws.All.{all_facts, all_test}
use Rattle.pending.specs.Run.{task_at}
use Rattle.pending.specs.Sound.{task_sound, task_sound_at, sound_of}
use Rattle.pending.specs.Laws.Sound.{Sound, SoundTask}

task_facts : (size : ℕ) (x : TaskRun) → task_sound size x ≡ true → SoundTask size x
unfolding task_sound
task_facts size x p =
    let q = both_pass (leb x.done x.count) _ p in
    let s = both_pass (leb x.place x.end) _ q.1 in
    record { done = leb-true _ _ q.0; place = leb-true _ _ s.0; end = leb-true _ _ s.1 }

task_test : (size : ℕ) (x : TaskRun) → SoundTask size x → task_sound size x ≡ true
unfolding task_sound
task_test size x w = rw (le-leb x.done x.count w.done, le-leb x.place x.end w.place, le-leb x.end size w.end)

pub sound_facts : (r : Run) (size : ℕ) → sound_of r size ≡ true → Sound r size
unfolding sound_of
sound_facts r size p =
    let q = both_pass (is_within 1 max_tasks r.tasks) _ p in
    let s = both_pass (is_within 1 max_objects r.objects) _ q.1 in
    let f = both_pass (leb r.fields max_fields) _ s.1 in
    let t = within_facts 1 max_tasks r.tasks q.0 in
    let n = within_facts 1 max_objects r.objects s.0 in
    record {
      some_tasks = t.0;
      few_tasks = t.1;
      some_objects = n.0;
      few_objects = n.1;
      few_fields = leb-true _ _ f.0;
      task = λ k h. task_facts size (task_at r.runs k) (all_facts (task_sound_at r size) r.tasks f.1 k h);
    }

pub sound_test : (r : Run) (size : ℕ) → Sound r size → sound_of r size ≡ true
unfolding sound_of
sound_test r size w = rw (
  within_test 1 max_tasks r.tasks w.some_tasks w.few_tasks,
  within_test 1 max_objects r.objects w.some_objects w.few_objects,
  le-leb r.fields max_fields w.few_fields,
) (all_test (task_sound_at r size) r.tasks (λ k h. task_test size (task_at r.runs k) (w.task k h)))
