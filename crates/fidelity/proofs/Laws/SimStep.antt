-- One step over bytes and one step of the history's replay: both are taken or neither is, and the relation between the two is kept.
use Rattle.std.specs.Prelude.{Ok, true, false, List, ◌∷◌, ◌≡◌, refl, ℕ, suc, ◌+◌, ◌<◌, length, get_or}
use Rattle.std.proofs.Math.Option.{some}
use Rattle.std.proofs.Common.{inl, inr, sym, ◌∙◌, arith, eq-eqb, ne_eqb, eqb-true, get_or-set_same, get_or-set_other}
use Rattle.std.proofs.Math.Path.{ap}
use Rattle.std.proofs.Math.Decide.{ℕ_discrete}
use Rattle.std.proofs.lemmas.Bool.{eqb-false}
use Rattle.codec.specs.declared.Op.{Op}
use Rattle.codec.specs.Laws.Decide.{never}
use Rattle.codec.specs.Limit.{max_tasks}
use Rattle.entries.specs.Bytes.{entry_length}
use Rattle.entries.specs.Reading.{Reading}
use Rattle.entries.specs.Recording.{Entry as FileEntry}
use Rattle.history.specs.Entry.{Act, Entry}
use Rattle.history.specs.History.{History, count, At}
use Rattle.history.specs.Sound.{Sound}
use Rattle.history.specs.Access.{Access}
use Rattle.history.specs.Replay.{State, is_ready, one_more, perform, shown, step, answer, takes}
use Rattle.history.proofs.Laws.Advance.{shown-recorded}
use Rattle.history.proofs.Laws.Ready.{access-next}
use Rattle.history.proofs.Laws.Run.{kept_step}
use Rattle.history.specs.Laws.Step.{Taken, Refused, taken, refused}
use Rattle.history.proofs.Laws.Step.{step_goes}
use Rattle.pending.specs.declared.TaskRun.{TaskRun}
use Rattle.replayer.specs.declared.Stepped.{Stepped}
use Rattle.replayer.specs.Laws.Left.{Left}
use Rattle.replayer.proofs.Laws.Left.{left-entry, left-own, left_other}
use Rattle.replayer.specs.Memory.{performed, value_of, agrees}
use Rattle.pending.proofs.Laws.Moved.{moved-own, moved_other}
use Rattle.pending.specs.Laws.Next.{OpenEntry}
use Rattle.pending.specs.Next.{entry_next}
use Rattle.pending.specs.Run.{task_at, done_of, moved_of}
use Rattle.replayer.specs.ReadyOf.{is_ready as is_ready_by}
use Rattle.replayer.specs.Laws.StepOf.{Taken as TakenBy, Turned, Barred, no_task_lem, none_left, waiting, unread, taken as taken_by, turned, differing}
use Rattle.replayer.proofs.Laws.StepOf.{step_goes as step-goes-by, step_keeps}
use Rattle.fidelity.specs.Bench.{Bench, answer_of, stepped, takes as takes_by}
use Rattle.fidelity.specs.Filed.{filed, filed_op}
use Rattle.fidelity.specs.Laws.LeftOver.{left_of}
use Rattle.fidelity.proofs.Laws.LeftOver.{left-next}
use Rattle.fidelity.specs.Laws.Matches.{Recordable}
use Rattle.fidelity.specs.Laws.Sim.{Sim}
use Rattle.fidelity.proofs.Laws.Sim.{sim_ready, sim_reads}
use Rattle.fidelity.specs.Statement.{Shows, RefusedBy}
use Rattle.codec.specs.Cell.{op_cell}
use Rattle.codec.specs.Laws.Cell.{cell_back}
use Rattle.codec.specs.Laws.Kind.{kind-writes, kind-valued}
use Rattle.fidelity.specs.Laws.SimStep.{Alike, Holds}

-- an access is filed by its cell
module _ (fields : ℕ) where
  -- an act done on a list and on a function that agree with each other
  perform-same : (a : Act) (memory : List ℕ) (m : ℕ → ℕ) (n : ℕ) → ((c : ℕ) → c < n → get_or memory c 0 ≡ m c) → length memory ≡ n → op_cell fields (filed_op fields a) < n
      → Recordable a → (c : ℕ) → c < n → get_or (performed (op_cell fields (filed_op fields a)) (filed_op fields a) memory) c 0 ≡ perform a m c
  perform-same (Act.read x v) memory m n e l low r c k = rw (kind-writes fields false) (e c k)
  perform-same (Act.write x v) memory m n e l low r c k = elim (ℕ_discrete x c) [
    | yes p ↦ rw (kind-writes fields true, cell_back fields x, eq-eqb x c p, ← p) (get_or-set_same memory x v 0 (omega (arith, cell_back fields x)))
    | no p ↦ rw (kind-writes fields true, cell_back fields x, ne_eqb x c p) (get_or-set_other memory x c v 0 (λ z. p (sym z)) ∙ e c k)
  ]
  perform-same (Act.acquire n₁) memory m n e l low r c k = absurd r

  -- what a step answers about it
  shows_same : (a : Act) (memory : List ℕ) (m : ℕ → ℕ) (n : ℕ) → ((c : ℕ) → c < n → get_or memory c 0 ≡ m c) → op_cell fields (filed_op fields a) < n → Recordable a
      → (r : Stepped) → r.kind ≡ (filed_op fields a).kind → r.object ≡ (filed_op fields a).object → r.field ≡ (filed_op fields a).field
      → r.value ≡ value_of (op_cell fields (filed_op fields a)) (filed_op fields a) memory → Shows fields r (shown a m)
  shows_same (Act.read x v) memory m n e low rec r k o f w =
      (k, o, f, w ∙ rw (kind-writes fields false, cell_back fields x) (e x (rw (cell_back fields x) at low)))
  shows_same (Act.write x v) memory m n e low rec r k o f w = (k, o, f, w ∙ rw (kind-writes fields true))
  shows_same (Act.acquire x) memory m n e low rec r k o f w = absurd rec

  -- a memory that shows a read's value agrees with its record
  agrees-same : (a : Act) (memory : List ℕ) (m : ℕ → ℕ) (n : ℕ) → ((c : ℕ) → c < n → get_or memory c 0 ≡ m c) → op_cell fields (filed_op fields a) < n → Recordable a
      → shown a m ≡ a → agrees (op_cell fields (filed_op fields a)) (filed_op fields a) memory ≡ true
  agrees-same (Act.read x v) memory m n e low rec q =
      let k : m x ≡ v = cc in
      rw (kind-valued fields false, cell_back fields x, e x (rw (cell_back fields x) at low), k) (eq-eqb v v refl)
  agrees-same (Act.write x v) memory m n e low rec q = rw (kind-valued fields true)
  agrees-same (Act.acquire x) memory m n e low rec q = absurd rec

module _ (start : ℕ → ℕ) (h : History) (bytes : List ℕ) (tasks cells fields : ℕ) (holds : Holds start h tasks) (s : State) (b : Bench) (i : Sim start h bytes tasks cells fields s b) (t : ℕ) where
  -- the next access on the bench is the next entry of the history
  module _ (op : Op) (nx : ℕ) (run-below : t < b.run.tasks) (w : OpenEntry b.run.runs (task_at b.run.runs t).place (entry_next b.run bytes t) op nx) (low : op_cell b.run.fields op < length b.memory)
      (e : Entry) (k : Taken h s t e) where
    below : t < tasks
    below = omega (arith, run-below, i.tasks_same)

    first : left_of fields t (s.done t) h ≡ filed fields e ∷ left_of fields t (suc (s.done t)) h
    first = left-next fields t (s.done t) h e (access-next k.access)

    left-now : Left b.run bytes t (filed fields e ∷ left_of fields t (suc (s.done t)) h)
    left-now = rw first at (i.left t below)

    entry-is : w.entry ≡ filed fields e
    entry-is =
        let p : ◌≡◌ {A = Reading FileEntry} (Ok w.entry) (Ok (filed fields e)) = sym w.reads ∙ left-entry b.run bytes t (filed fields e) (left_of fields t (suc (s.done t)) h) left-now in
        cc

    op-is : op ≡ filed_op fields e.act
    op-is = w.op ∙ ap (λ (f : FileEntry). f.op) entry-is

    next-is : nx ≡ (task_at b.run.runs t).place + entry_length (filed fields e)
    next-is = w.next ∙ ap (λ (f : FileEntry). (task_at b.run.runs t).place + entry_length f) entry-is

    few : t < max_tasks
    few = omega (arith, run-below, (Rattle.pending.proofs.Laws.Sound.sound_facts b.run (length bytes) i.sound).few_tasks)

    cell_low : op_cell fields (filed_op fields e.act) < cells
    cell_low = let o : op_cell b.run.fields op < cells = omega (arith, low, i.entries) in rw (i.fields_same, op-is) at o

    -- the memory shows what the box's access got, so it agrees with the record
    memory-agrees : agrees (op_cell b.run.fields op) op b.memory ≡ true
    memory-agrees = rw (i.fields_same, op-is) (agrees-same fields e.act b.memory s.memory cells i.memory cell_low (holds.recordable k.access.at)
        (shown-recorded s.done t k.access i.kept.closed k.met holds.sound s.memory i.kept.holds))

    done-moved : (u : ℕ) → done_of (moved_of b.run t nx).runs u ≡ one_more t s.done u
    unfolding one_more
    done-moved u = elim (ℕ_discrete u t) [
      | yes p ↦
          let q : done_of (moved_of b.run t nx).runs t ≡ done_of b.run.runs t + 1 = ap (λ (x : TaskRun). x.done) (moved-own b.run t nx i.shaped few) in
          rw (eq-eqb u t p, p) (omega (arith, q, i.done t))
      | no p ↦ rw (ne_eqb u t p) (ap (λ (x : TaskRun). x.done) (moved_other b.run t nx u p) ∙ i.done u)
    ]

    counts-moved : (u : ℕ) → u < tasks → (task_at (moved_of b.run t nx).runs u).count ≡ count u h
    counts-moved u l = elim (ℕ_discrete u t) [
      | yes p ↦ rw (p, moved-own b.run t nx i.shaped few) (i.counts t below)
      | no p ↦ rw (moved_other b.run t nx u p) (i.counts u l)
    ]

    left-moved : (u : ℕ) → u < tasks → Left (moved_of b.run t nx) bytes u (left_of fields u (one_more t s.done u) h)
    unfolding one_more
    left-moved u l = elim (ℕ_discrete u t) [
      | yes p ↦ rw (eq-eqb u t p, p, next-is) (left-own b.run bytes t (filed fields e) (left_of fields t (suc (s.done t)) h) i.shaped few left-now)
      | no p ↦ rw (ne_eqb u t p) (left_other b.run bytes u t nx (left_of fields u (s.done u) h) p (i.left u l))
    ]

  -- both are taken
  module _ (op : Op) (nx : ℕ) (w : TakenBy b.run bytes b.memory t op nx) (e : Entry) (k : Taken h s t e) where
    abbrev is : op ≡ filed_op fields e.act
    is = op-is op nx w.below w.entry w.cell e k

    abbrev low : op_cell fields (filed_op fields e.act) < cells
    low = cell_low op nx w.below w.entry w.cell e k

    both_taken : Alike start h bytes tasks cells fields s b t
    both_taken =
        let keep = step_keeps b.run bytes b.memory t i.sound i.shaped (i.entries ∙ sym i.cells_same) in
        record {
          same = rw (w.number, k.answers);
          sim = record {
            kept = kept_step holds.sound s t i.kept;
            sound = keep.sound;
            shaped = keep.shaped;
            tasks_same = keep.tasks ∙ i.tasks_same;
            fields_same = keep.fields ∙ i.fields_same;
            cells_same = keep.cells ∙ i.cells_same;
            entries = keep.entries ∙ i.entries;
            done = λ u. rw (k.moves, w.run) (done-moved op nx w.below w.entry w.cell e k u);
            counts = λ u l. rw w.run (counts-moved op nx w.below w.entry w.cell e k u l);
            left = λ u l. rw (k.moves, w.run) (left-moved op nx w.below w.entry w.cell e k u l);
            memory = λ c l. rw (k.moves, w.after, i.fields_same, is) (perform-same fields e.act b.memory s.memory cells i.memory i.entries low (holds.recordable k.access.at) c l);
          };
          played = λ z. (
            e,
            record {
              access = k.access;
              replies = k.answers;
              number = w.access ∙ (omega (arith, i.done t));
              shows = shows_same fields e.act b.memory s.memory cells i.memory low (holds.recordable k.access.at) (answer_of bytes b t)
                  (w.kind ∙ ap (λ (o : Op). o.kind) is) (w.names ∙ ap (λ (o : Op). o.object) is) (w.field ∙ ap (λ (o : Op). o.field) is)
                  (w.value ∙ rw (i.fields_same, is));
              kind = w.kind ∙ ap (λ (o : Op). o.kind) is;
              offset = w.offset;
            },
          );
          barred = λ z. absurd (eqb-false _ _ z w.number);
        }

  -- neither is taken
  refused_by : (t < b.run.tasks → is_ready_by b.run bytes t ≡ false) → Barred b.run bytes b.memory t → RefusedBy (answer_of bytes b t).number
  refused_by u (no_task_lem e) = inl e
  refused_by u (none_left e) = inr (inl e)
  refused_by u (waiting e) = inr (inr e)
  refused_by u (unread c l q n) = absurd (sim_reads start h bytes tasks cells fields s b i t (omega (arith, i.tasks_same)) q c n)

  neither : RefusedBy (answer_of bytes b t).number → Turned b.run bytes b.memory t → Refused h s t → Alike start h bytes tasks cells fields s b t
  neither f w k =
      let e : (answer_of bytes b t).run ≡ b.run = ap (λ (x : Stepped). x.run) w.answer in
      record {
        same = ne_eqb (answer_of bytes b t).number 0 w.number ∙ rw k.silent;
        sim = rw (k.stays, e, w.after) i;
        played = λ z. absurd (w.number (eqb-true _ _ z));
        barred = λ z. f;
      }

  -- the history's test for readiness and the bench's
  ready_low : is_ready h s t ≡ true → t < tasks
  ready_low p = elim (step_goes h s t) [
    | taken e k ↦ let own = k.access.own in let l = holds.low k.access.at in rw own at l
    | refused k ↦ absurd (never (is_ready h s t) p k.unready)
  ]

  ready_both : t < b.run.tasks → is_ready_by b.run bytes t ≡ true → is_ready h s t ≡ true
  ready_both l p = sym (sim_ready start h bytes tasks cells fields s b i t (omega (arith, i.tasks_same))) ∙ p

  pub sim_step : Alike start h bytes tasks cells fields s b t
  sim_step = elim (step-goes-by b.run bytes b.memory t i.sound (i.entries ∙ sym i.cells_same)) [
    | taken_by op nx w ↦ elim (step_goes h s t) [
      | taken e k ↦ both_taken op nx w e k
      | refused k ↦ absurd (never (is_ready h s t) (ready_both w.below w.ready) k.unready)
    ]
    | turned u f w ↦ elim (step_goes h s t) [
      | refused k ↦ neither (refused_by u f) w k
      | taken e k ↦
          let l : t < tasks = ready_low k.ready in
          absurd (never (is_ready h s t) k.ready (sym (sim_ready start h bytes tasks cells fields s b i t l) ∙ u (omega (arith, i.tasks_same))))
    ]
    | differing op nx d w ↦ elim (step_goes h s t) [
      | refused k ↦ absurd (never (is_ready h s t) (ready_both d.below d.ready) k.unready)
      | taken e k ↦ absurd (never (agrees (op_cell b.run.fields op) op b.memory) (memory-agrees op nx d.below d.entry d.cell e k) d.differs)
    ]
  ]
