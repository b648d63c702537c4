-- The replay's side of demand 3: every list of steps over bytes that record a history, by what is proved about replaying the history.
use Rattle.std.specs.Prelude.{true, false, List, ◌↔◌, ◌≡◌, ℕ, suc, ◌≤◌, ◌<◌, length, get_or}
use Rattle.std.proofs.Math.Option.{some}
use Rattle.std.proofs.Common.{sym, ap, ◌∙◌, arith, le-ltb}
use Rattle.std.proofs.Math.Path.{fun_ext}
use Rattle.std.proofs.Math.Decide.{dec_lt}
use Rattle.std.proofs.lemmas.Bool.{eqb-false}
use Rattle.codec.specs.Laws.Decide.{never, passes, fails, split}
use Rattle.reader.specs.Parse.{Parsed}
use Rattle.history.specs.Entry.{Entry}
use Rattle.history.specs.History.{History}
use Rattle.history.specs.Access.{Access}
use Rattle.history.proofs.Laws.Access.{access_of_lem, access_unique}
use Rattle.history.specs.Memory.{reference, memory_of}
use Rattle.history.specs.Replay.{State, Reply, fresh, shown, tally, recorded_order}
use Rattle.history.specs.Ready.{Ready}
use Rattle.history.specs.Faithful.{after, Faithful}
use Rattle.history.proofs.Laws.Faithful.{faithful}
use Rattle.replayer.specs.declared.Stepped.{Stepped}
use Rattle.pending.proofs.Laws.All.{all_test}
use Rattle.scheduler.specs.Finish.{tasks_in, finished_of}
use Rattle.replayer.specs.Laws.Frame.{Frame}
use Rattle.replayer.proofs.Laws.Frame.{frame_first}
use Rattle.replayer.proofs.Laws.OpenOf.{opened-stands}
use Rattle.replayer.specs.OpenOf.{open_of, opened_run}
use Rattle.replayer.specs.Laws.ReadyOf.{ReadySet}
use Rattle.replayer.proofs.Laws.ReadyOf.{ready-word}
use Rattle.replayer.specs.ReadyOf.{is_ready as is_ready_by, ready_of}
use Rattle.pending.specs.Run.{task_at, cell_count}
use Rattle.replayer.proofs.Laws.StepOf.{refused-stays}
use Rattle.replayer.specs.Word.{has_bit}
use Rattle.replayer.proofs.Laws.Word.{zero_bit}
use Rattle.scheduler.proofs.Laws.Finish.{ready-word_zero}
use Rattle.fidelity.specs.Bench.{Bench, bench_of, answer_of, stepped, stepped_all, takes as takes_by, tally as tally_by, tally_of as tally_of_by, AllTaken as AllTakenBy}
use Rattle.fidelity.specs.Filed.{filed_op}
use Rattle.fidelity.specs.Laws.Matches.{Matches}
use Rattle.fidelity.specs.Laws.Sim.{Sim}
use Rattle.fidelity.proofs.Laws.Sim.{sim_ready}
use Rattle.fidelity.specs.Laws.SimStep.{Alike}
use Rattle.fidelity.proofs.Laws.SimStep.{sim_step}
use Rattle.fidelity.proofs.Laws.SimRun.{sim_run, frame_run, tally-same, tally_of_same, all-taken-same}
use Rattle.fidelity.proofs.Laws.SimStart.{holds, opened-is, sim_start}
use Rattle.fidelity.specs.Statement.{Shows, RefusedBy}

act_of_lem : {r s : Reply} → some r ≡ some s → r.act ≡ s.act
act_of_lem q = cc

tasks_in_lem : (tasks : ℕ) → tasks_in tasks ≤ tasks
tasks_in_lem tasks = omega arith

-- a step that is not taken changes nothing
pub refused_changes_nothing : (bytes : List ℕ) (b : Bench) (t : ℕ) → takes_by bytes b t ≡ false → stepped bytes b t ≡ b
refused_changes_nothing bytes b t q =
    let w = refused-stays b.run bytes b.memory t (eqb-false _ _ q) in
    rw (w.after, ap (λ (s : Stepped). s.run) w.answer)

module _ (start : ℕ → ℕ) (h : History) (bytes : List ℕ) (p : Parsed) (m : Matches start h bytes p) (memory : List ℕ) (z : (open_of bytes memory).answer.number ≡ 0) where
  abbrev tasks : ℕ
  tasks = p.recording.tasks

  abbrev cells : ℕ
  cells = cell_count (opened_run p)

  abbrev fields : ℕ
  fields = p.recording.fields

  abbrev first : Bench
  first = bench_of bytes memory

  ideal : Faithful start h
  ideal = faithful m.sound

  pub sim : (steps : List ℕ) → Sim start h bytes tasks cells fields (after start h steps) (stepped_all bytes first steps)
  sim steps = sim_run start h bytes tasks cells fields (holds start h bytes p m) (fresh start) first (sim_start start h bytes p m memory z) steps

  alike : (steps : List ℕ) (t : ℕ) → Alike start h bytes tasks cells fields (after start h steps) (stepped_all bytes first steps) t
  alike steps t = sim_step start h bytes tasks cells fields (holds start h bytes p m) (after start h steps) (stepped_all bytes first steps) (sim steps) t

  -- the accesses done on the bench are those done in the history's replay
  pub done-same : (steps : List ℕ) → (λ t. tally_of_by t bytes first steps) ≡ (after start h steps).done
  done-same steps = fun_ext (λ t. tally_of_same start h bytes tasks cells fields (holds start h bytes p m) t (fresh start) first (sim_start start h bytes p m memory z) steps
      ∙ sym (ideal.done_is_tally steps t))

  pub counts_same : (steps : List ℕ) → tally_by bytes first steps ≡ tally h (fresh start) steps
  counts_same steps = tally-same start h bytes tasks cells fields (holds start h bytes p m) (fresh start) first (sim_start start h bytes p m memory z) steps

  -- what the steps leave alone in the run
  pub framed : (steps : List ℕ) → Frame (opened_run p) (stepped_all bytes first steps).run
  framed steps =
      frame_run start h bytes tasks cells fields (holds start h bytes p m) (opened_run p) (fresh start) first (sim_start start h bytes p m memory z)
      (rw (opened-is start h bytes p m memory z) (frame_first (opened_run p) (opened-stands bytes p m.reads).shaped)) steps

  pub taken_when_ready : (steps : List ℕ) (t : ℕ) → (takes_by bytes (stepped_all bytes first steps) t ≡ true) ↔ Ready h (λ u. tally_of_by u bytes first steps) t
  taken_when_ready steps t = rw (done-same steps, (alike steps t).same) (ideal.taken_when_ready steps t)

  pub refused_by : (steps : List ℕ) (t : ℕ) → takes_by bytes (stepped_all bytes first steps) t ≡ false → RefusedBy (answer_of bytes (stepped_all bytes first steps) t).number
  refused_by steps t = (alike steps t).barred

  pub answers_recorded : (steps : List ℕ) (t : ℕ) → takes_by bytes (stepped_all bytes first steps) t ≡ true
      → (e : Entry) × Access h t (suc (tally_of_by t bytes first steps)) e
      × ((answer_of bytes (stepped_all bytes first steps) t).access ≡ suc (tally_of_by t bytes first steps)) × Shows fields (answer_of bytes (stepped_all bytes first steps) t) e.act
  answers_recorded steps t y =
      let s : State = after start h steps in
      let d : tally_of_by t bytes first steps ≡ s.done t = ap (λ (f : ℕ → ℕ). f t) (done-same steps) in
      let a = alike steps t in
      let (e, w) = a.played y in
      let (f, access, replies) = ideal.answers_recorded steps t (sym a.same ∙ y) in
      let v : shown e.act s.memory ≡ f.act = act_of_lem (sym w.replies ∙ replies) in
      rw d (f, access, w.number, rw v at w.shows)

  -- the rest of a taken step's answer
  pub record Answered (steps : List ℕ) (t : ℕ) : Type 0 where
    pub kind : (e : Entry) → Access h t (suc (tally_of_by t bytes first steps)) e → (answer_of bytes (stepped_all bytes first steps) t).kind ≡ (filed_op fields e.act).kind
    pub offset : (answer_of bytes (stepped_all bytes first steps) t).offset ≡ 0

  pub kind-recorded : (steps : List ℕ) (t : ℕ) → takes_by bytes (stepped_all bytes first steps) t ≡ true → Answered steps t
  kind-recorded steps t y =
      let d : tally_of_by t bytes first steps ≡ (after start h steps).done t = ap (λ (f : ℕ → ℕ). f t) (done-same steps) in
      let (e, w) = (alike steps t).played y in
      record { kind = λ f a. w.kind ∙ ap (λ (g : Entry). (filed_op fields g.act).kind) (access_unique w.access (rw d at a)); offset = w.offset }

  -- the bench's run is sound after any steps, so its ready word gives the ready tasks
  word : (steps : List ℕ) → ReadySet (stepped_all bytes first steps).run bytes
  word steps = ready-word (stepped_all bytes first steps).run bytes (sim steps).sound

  pub word_sound : (steps : List ℕ) → (ready_of (stepped_all bytes first steps).run bytes).number ≡ 0
  word_sound steps = (word steps).number

  none_above : (steps : List ℕ) (t : ℕ) → tasks ≤ t → Ready h (after start h steps).done t → ⊥
  none_above steps t l r =
      let (e, a) = access_of_lem t ((after start h steps).done t) h r.left in
      let own = a.own in
      let k : e.task < tasks = m.tasks_low a.at in
      let k2 : t < tasks = rw own at k in
      omega arith

  pub word_ready : (steps : List ℕ) (t : ℕ) → (has_bit (ready_of (stepped_all bytes first steps).run bytes).word t ≡ true) ↔ Ready h (λ u. tally_of_by u bytes first steps) t
  word_ready steps t = rw (done-same steps) (elim (dec_lt t tasks) [
    | yes l ↦ rw ((word steps).bit t (omega (arith, (sim steps).tasks_same)), sim_ready start h bytes tasks cells fields (after start h steps) (stepped_all bytes first steps) (sim steps) t l)
        (ideal.test_tells_ready steps t)
    | no l ↦ (
      λ q. absurd (never (has_bit (ready_of (stepped_all bytes first steps).run bytes).word t) q ((word steps).above t (omega (arith, (sim steps).tasks_same)))),
      λ r. absurd (none_above steps t (omega arith) r),
    )
  ])

  pub never_more : (steps : List ℕ) → tally_by bytes first steps ≤ length h
  never_more steps = rw (counts_same steps) (ideal.tally_bounded steps)

  word_none : (steps : List ℕ) → ((t : ℕ) → Ready h (after start h steps).done t → ⊥) → (ready_of (stepped_all bytes first steps).run bytes).word ≡ 0
  word_none steps idle = ready-word_zero (stepped_all bytes first steps).run bytes (sim steps).sound each
    where
      each : (t : ℕ) → t < (stepped_all bytes first steps).run.tasks → is_ready_by (stepped_all bytes first steps).run bytes t ≡ false
      each t l = elim (split (is_ready_by (stepped_all bytes first steps).run bytes t)) [
        | fails q ↦ q
        | passes q ↦ absurd (idle t ((ideal.test_tells_ready steps t).0
            (sym (sim_ready start h bytes tasks cells fields (after start h steps) (stepped_all bytes first steps) (sim steps) t (omega (arith, (sim steps).tasks_same))) ∙ q)))
      ]

  pub stops_at_end : (steps : List ℕ) → ((ready_of (stepped_all bytes first steps).run bytes).word ≡ 0) ↔ (tally_by bytes first steps ≡ length h)
  stops_at_end steps = rw (counts_same steps) (
    λ q. (ideal.stops_at_end steps).0 (λ t r.
        let x : has_bit (ready_of (stepped_all bytes first steps).run bytes).word t ≡ true = (word_ready steps t).1 (rw (done-same steps) r) in
        never (has_bit 0 t) (rw q at x) (zero_bit t)),
    λ q. word_none steps ((ideal.stops_at_end steps).1 q),
  )

  pub end_memory : (steps : List ℕ) → tally_by bytes first steps ≡ length h → (c : ℕ) → c < cells → get_or (stepped_all bytes first steps).memory c 0 ≡ reference start h c
  end_memory steps q c l = (sim steps).memory c l ∙ ideal.end_memory steps (sym (counts_same steps) ∙ q) c

  -- when all accesses are done, no task has any left
  pub end-finished : (steps : List ℕ) → tally_by bytes first steps ≡ length h → finished_of (stepped_all bytes first steps).run ≡ true
  end-finished steps q = all_test _ _ (λ t l.
      let i = sim steps in
      let f : tasks_in (stepped_all bytes first steps).run.tasks ≤ (stepped_all bytes first steps).run.tasks = tasks_in_lem _ in
      let d = ideal.end_done steps (sym (counts_same steps) ∙ q) t in
      let x = task_at (stepped_all bytes first steps).run.runs t in
      rw (le-ltb x.done x.count (omega (arith, d, i.done t, i.counts t (omega (arith, l, f, i.tasks_same))))))

  -- memory after any steps: the starting values and the writes of the accesses done
  pub memory_of_writes : (steps : List ℕ) (c : ℕ) → c < cells → get_or (stepped_all bytes first steps).memory c 0 ≡ memory_of start (λ t. tally_of_by t bytes first steps) h c
  memory_of_writes steps c l = rw (done-same steps) ((sim steps).memory c l ∙ ideal.memory_of_writes steps c)

  pub memory_entries : (steps : List ℕ) → length (stepped_all bytes first steps).memory ≡ cells
  memory_entries steps = (sim steps).entries

  pub takes_recorded_order : AllTakenBy bytes first (recorded_order h)
  takes_recorded_order = all-taken-same start h bytes tasks cells fields (holds start h bytes p m) (fresh start) first (sim_start start h bytes p m memory z) (recorded_order h) ideal.takes_recorded_order
