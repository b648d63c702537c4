-- What an accepted opening means: the recording that the bytes are, each task at the start of its body with nothing done, a sound run,
-- and the starting values as memory.
use Rattle.codec.specs.Reason.{number_of}
use Rattle.std.specs.Prelude.{Err, Ok, ◌≡◌, refl, List, ℕ, zero, suc, ◌≤◌, ◌<◌, eqb, length, get_or, set}
use Rattle.std.proofs.Common.{ap, ◌∙◌, arith, length-set, get_or-set_same, get_or-set_other, eqb-true, eq-eqb}
use Rattle.std.proofs.Math.Decide.{ℕ_discrete, dec_lt}
use Rattle.std.proofs.lemmas.List.{get_or-replicate}
use Rattle.std.proofs.Math.ListN.{get_or-eq_default}
use Rattle.codec.specs.Laws.Decide.{passes, fails, split}
use Rattle.reader.specs.declared.Span.{Span}
use Rattle.reader.specs.Calls.{no_span}
use Rattle.reader.specs.Laws.Laid.{values-count, Valued, parse-valued}
use Rattle.reader.specs.Parse.{Parsed, parse}
use Rattle.reader.specs.Laws.Numbered.{parse-numbered}
use Rattle.entries.specs.Reading.{Reading}
use Rattle.reader.specs.Laws.Standing.{Standing, parse-stands}
use Rattle.pending.specs.declared.TaskRun.{TaskRun}
use Rattle.codec.specs.Number.{entries as wrong_length, ByReader}
use Rattle.codec.specs.Limit.{max_tasks}
use Rattle.pending.specs.Run.{blank_task, blank_tasks, task_at, done_of, cell_count}
use Rattle.pending.proofs.Laws.Sound.{sound_test}
use Rattle.replayer.specs.OpenOf.{start_of, starts_of, opened_run, on_parse, open_of}
use Rattle.codec.specs.Cell.{width_of, cells_of}
use Rattle.codec.specs.Laws.Cell.{cells_of_lem}
use Rattle.replayer.specs.Laws.OpenOf.{AtStart, Opens}

pub starts-length : (spans : List Span) (n : ℕ) → length (starts_of spans n) ≡ max_tasks
unfolding starts_of
starts-length spans zero = refl
starts-length spans (suc n) = length-set (starts_of spans n) n (start_of (get_or spans n no_span)) ∙ starts-length spans n

starts-at : (spans : List Span) (n t : ℕ) → n ≤ max_tasks → t < n → task_at (starts_of spans n) t ≡ start_of (get_or spans t no_span)
unfolding starts_of
starts-at spans zero t h k = absurd (omega arith)
starts-at spans (suc n) t h k = elim (ℕ_discrete t n) [
  | yes e ↦ rw e (get_or-set_same (starts_of spans n) n (start_of (get_or spans n no_span)) blank_task (omega (arith, starts-length spans n)))
  | no e ↦ get_or-set_other (starts_of spans n) n t (start_of (get_or spans n no_span)) blank_task e ∙ starts-at spans n t (omega arith) (omega (arith, e))
]

-- past the list's end everything is blank
beyond : (runs : List TaskRun) (t : ℕ) → length runs ≤ t → done_of runs t ≡ 0
beyond runs t h = ap (λ (x : TaskRun). x.done) (get_or-eq_default runs blank_task h)

blank_done : (t : ℕ) → done_of blank_tasks t ≡ 0
blank_done t = elim (dec_lt t max_tasks) [
  | yes h ↦ ap (λ (x : TaskRun). x.done) (get_or-replicate max_tasks t blank_task blank_task h)
  | no h ↦ beyond blank_tasks t (omega (arith, h))
]

starts-done : (spans : List Span) (n t : ℕ) → done_of (starts_of spans n) t ≡ 0
unfolding starts_of
starts-done spans zero t = blank_done t
starts-done spans (suc n) t =
    let l = length-set (starts_of spans n) n (start_of (get_or spans n no_span)) ∙ starts-length spans n in
    elim (ℕ_discrete t n) [
      | no e ↦ ap (λ (x : TaskRun). x.done) (get_or-set_other (starts_of spans n) n t (start_of (get_or spans n no_span)) blank_task e) ∙ starts-done spans n t
      | yes e ↦ elim (dec_lt n max_tasks) [
        | yes h ↦ rw e (ap (λ (x : TaskRun). x.done) (get_or-set_same (starts_of spans n) n (start_of (get_or spans n no_span)) blank_task (omega (arith, starts-length spans n))))
        | no h ↦ beyond (set (starts_of spans n) n (start_of (get_or spans n no_span))) t (omega (arith, h))
      ]
    ]

pub opened-stands : (b : List ℕ) (p : Parsed) → parse b ≡ Ok p → AtStart b p
opened-stands b p e =
    let s : Standing b p = parse-stands b p e in
    let v : Valued b p = parse-valued b p e in
    let k : (t : ℕ) → t < p.recording.tasks → task_at (opened_run p).runs t ≡ start_of (get_or p.spans t no_span) = λ t h. starts-at p.spans p.recording.tasks t s.few_tasks h in
    record {
      shaped = starts-length p.spans p.recording.tasks;
      sound = sound_test (opened_run p) (length b) (record {
        some_tasks = s.some_tasks;
        few_tasks = s.few_tasks;
        some_objects = s.some_objects;
        few_objects = s.few_objects;
        few_fields = s.few_fields;
        task = λ t h. rw (k t h) (record { done = omega arith; place = (s.inside t no_span h).0; end = (s.inside t no_span h).1 });
      });
      task = k;
      done = λ t. starts-done p.spans p.recording.tasks t;
      values = ap length v.values ∙ values-count (width_of p.recording.fields) (length p.recording.owners) _ ∙ cells_of_lem p.recording.fields (length p.recording.owners);
    }

-- if the bytes read as a recording and the memory has N times F entries, the opening is accepted
pub open_accepts : (b memory : List ℕ) (p : Parsed) → parse b ≡ Ok p → length memory ≡ cell_count (opened_run p)
    → open_of b memory ≡ record { answer = record { number = 0; offset = 0; run = opened_run p }; memory = p.recording.values }
unfolding open_of on_parse
open_accepts b memory p e h = rw (e, eq-eqb (length memory) (cells_of p.recording.fields (length p.recording.owners)) h)

pub open_accepted : (b memory : List ℕ) → (open_of b memory).answer.number ≡ 0 → Opens b memory
unfolding open_of on_parse
open_accepted b memory h = go (parse b) refl
  where
    go : (x : Reading Parsed) → parse b ≡ x → Opens b memory
    go (Err c) q = absurd (
        let n : (number_of c.reason) ≡ 0 = rw q at h in
        let z : ByReader (number_of c.reason) = rw q at (parse-numbered b) in
        omega (arith, z.0))
    go (Ok p) q = elim (split (eqb (length memory) (cells_of p.recording.fields (length p.recording.owners)))) [
      | passes d ↦ record { parsed = p; reads = q; entries = eqb-true _ _ d }
      | fails d ↦ absurd (let z : ◌≡◌ {A = ℕ} wrong_length 0 = rw (q, d) at h in omega arith)
    ]
