-- What steps leave alone in a run: T, N, each body's end and count, and all of what is past T. So a run is known by the accesses that are
-- done: two runs after any steps from one run are equal if each task has the same ones left.
use Rattle.std.specs.Prelude.{◌≡◌, refl, true, List, ℕ, ◌<◌, length}
use Rattle.std.proofs.Common.{sym, ap, ◌∙◌, arith, ext_get_or}
use Rattle.std.proofs.Math.Decide.{ℕ_discrete, dec_lt}
use Rattle.codec.specs.Limit.{max_tasks}
use Rattle.pending.specs.declared.Run.{Run}
use Rattle.pending.specs.declared.TaskRun.{TaskRun}
use Rattle.pending.specs.Laws.Moved.{Shaped}
use Rattle.pending.proofs.Laws.Moved.{moved_shaped, moved-own, moved_other, moved-tasks, moved-objects, moved-fields}
use Rattle.pending.proofs.Laws.Sound.{sound_facts}
use Rattle.pending.specs.Run.{blank_task, task_at, done_of, limits_of, moved_of, cell_count}
use Rattle.pending.specs.Sound.{sound_of}
use Rattle.replayer.specs.declared.Stepped.{Stepped}
use Rattle.replayer.proofs.Laws.Left.{left-place}
use Rattle.replayer.specs.Laws.StepOf.{Turned, taken, turned, differing}
use Rattle.replayer.proofs.Laws.StepOf.{step_goes}
use Rattle.replayer.specs.StepOf.{step_of}
use Rattle.replayer.specs.Laws.Frame.{Frame, LeftBoth}

pub frame_first : (r : Run) → Shaped r → Frame r r
frame_first r s = record { tasks = refl; objects = refl; fields = refl; shaped = s; ends = λ t. refl; counts = λ t. refl; past = λ t h. refl }

frame_moved : (from r : Run) (t next : ℕ) → Frame from r → t < r.tasks → t < max_tasks → Frame from (moved_of r t next)
frame_moved from r t next f h k = record {
  tasks = moved-tasks r t next ∙ f.tasks;
  objects = moved-objects r t next ∙ f.objects;
  fields = moved-fields r t next ∙ f.fields;
  shaped = moved_shaped r t next f.shaped;
  ends = λ u. elim (ℕ_discrete u t) [
    | yes e ↦ rw (e, moved-own r t next f.shaped k) (f.ends t)
    | no e ↦ rw (moved_other r t next u e) (f.ends u)
  ];
  counts = λ u. elim (ℕ_discrete u t) [
    | yes e ↦ rw (e, moved-own r t next f.shaped k) (f.counts t)
    | no e ↦ rw (moved_other r t next u e) (f.counts u)
  ];
  past = λ u l. moved_other r t next u (λ e. omega (arith, f.tasks)) ∙ f.past u l;
}

module _ (from r : Run) (b memory : List ℕ) (t : ℕ) (f : Frame from r) where
  frame_turned : Turned r b memory t → Frame from (step_of r b memory t).answer.run
  frame_turned w = rw (ap (λ (s : Stepped). s.run) w.answer) f

  pub frame_step : sound_of r (length b) ≡ true → length memory ≡ cell_count r → Frame from (step_of r b memory t).answer.run
  frame_step s m = elim (step_goes r b memory t s m) [
    | taken op next w ↦ rw w.run (frame_moved from r t next f w.below (omega (arith, w.below, (sound_facts r (length b) s).few_tasks)))
    | turned u g w ↦ frame_turned w
    | differing op next d w ↦ frame_turned w
  ]

task-same : (x y : TaskRun) → x.place ≡ y.place → x.end ≡ y.end → x.done ≡ y.done → x.count ≡ y.count → x ≡ y
task-same x y p e d c = λ i. record { place = p i; end = e i; done = d i; count = c i }

run-same : (r q : Run) → r.tasks ≡ q.tasks → r.objects ≡ q.objects → r.fields ≡ q.fields → r.runs ≡ q.runs → r ≡ q
run-same r q t o f s = λ i. record { tasks = t i; objects = o i; fields = f i; runs = s i }

module _ (from r q : Run) (b : List ℕ) (f : Frame from r) (g : Frame from q) (s : sound_of r (length b) ≡ true) (z : sound_of q (length b) ≡ true) where
  pub frame_same : ((t : ℕ) → t < from.tasks → done_of r.runs t ≡ done_of q.runs t) → ((t : ℕ) → t < from.tasks → LeftBoth r q b t) → r ≡ q
  frame_same d l = run-same r q (f.tasks ∙ sym g.tasks) (f.objects ∙ sym g.objects) (f.fields ∙ sym g.fields)
      (ext_get_or blank_task r.runs q.runs (f.shaped ∙ sym g.shaped) (λ t h. elim (dec_lt t from.tasks) [
        | yes k ↦
            let x = task_at r.runs t in
            let y = task_at q.runs t in
            let e : x.end ≡ y.end = f.ends t ∙ sym (g.ends t) in
            let a = (sound_facts r (length b) s).task t (omega (arith, f.tasks)) in
            let c = (sound_facts q (length b) z).task t (omega (arith, g.tasks)) in
            let w = l t k in
            let m : limits_of q t ≡ limits_of r t = rw (f.tasks, g.tasks, f.objects, g.objects, f.fields, g.fields) in
            task-same x y (left-place w.entries (limits_of r t) x y b e a.place c.place a.end w.one (rw m at w.other)) e (d t k) (f.counts t ∙ sym (g.counts t))
        | no k ↦ f.past t (omega arith) ∙ sym (g.past t (omega arith))
      ]))
