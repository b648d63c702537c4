-- Laws of `FirstUnmet`.
use Rattle.std.specs.Prelude.{None, Err, Ok, ◌≡◌, refl, Bool, true, ◌&&◌, List, [], ◌∷◌, ℕ, ◌+◌, ◌≤◌, ◌<◌, length, get_or}
use Rattle.std.proofs.Common.{sym, ◌∙◌, le-leb, lt-ltb, le-ltb}
use Rattle.std.proofs.Math.Path.{ap}
use native.Mathlib.Omega.{arith}
use Rattle.std.proofs.lemmas.Bool.{lt-leb}
use Rattle.codec.specs.declared.Position.{Position}
use Rattle.codec.specs.Laws.Decide.{passes, fails, split}
use Rattle.codec.specs.declared.number.Reason.TheVariants.{InBody, Misplaced}
use Rattle.codec.specs.Limit.{max_tasks}
use Rattle.entries.specs.declared.Refusal.{Refusal}
use Rattle.entries.specs.declared.Limits.{Limits}
use Rattle.entries.specs.declared.entry.Found.{Found}
use Rattle.entries.specs.Answers.{found_in, found}
use Rattle.entries.proofs.Laws.Answers.{found-refused}
use Rattle.entries.specs.Bytes.{entry_length}
use Rattle.entries.proofs.Laws.Entry.{entry_ended}
use Rattle.entries.specs.Laws.EntryCase.{EntryCase, More, last, more}
use Rattle.entries.proofs.Laws.EntryCase.{entry_case, found-entry}
use Rattle.entries.specs.OrderingAt.{ordering_at}
use Rattle.entries.proofs.Laws.OrderingAt.{more-at}
use Rattle.entries.specs.Part.{part}
use Rattle.entries.proofs.Laws.Part.{part-drop, part_length}
use Rattle.entries.specs.Reading.{Reading, stop}
use Rattle.entries.specs.Recording.{Entry}
use Rattle.pending.specs.declared.TaskRun.{TaskRun}
use Rattle.pending.specs.Dones.{dones_of}
use Rattle.pending.proofs.Laws.Dones.{dones_at}
use Rattle.pending.specs.Look.{group_at, Looks}
use Rattle.pending.specs.Met.{all_met}
use Rattle.pending.specs.Next.{Next, may_go, judged, is_open}
use Rattle.pending.specs.Run.{done_of}
use Rattle.pending.specs.FirstUnmet.{unmet_at, DoneAll, Ahead, Holds}
use Rattle.pending.specs.Unmet.{none, first, unmet_of, unmet_in}
use Rattle.pending.specs.Laws.FirstUnmet.{Passing}

pub done_at_lem : (dones : List ℕ) (runs : List TaskRun) → dones_of runs ≡ dones → (s : ℕ) → s < max_tasks → get_or dones s 0 ≡ done_of runs s
done_at_lem dones runs e s h = rw (← e) (dones_at runs s h)

pub done_all : (dones : List ℕ) (runs : List TaskRun) → dones_of runs ≡ dones → DoneAll dones runs
done_all dones runs e s h = omega (arith, done_at_lem dones runs e s h)

pub ahead_later : (m : Limits) (b dones later : List ℕ) (from end place at : ℕ) → ((s : ℕ) → s < max_tasks → get_or dones s 0 ≤ get_or later s 0)
    → Ahead m b dones from end place at → Ahead m b later from end place at
ahead_later m b dones later from end place at g w = record {
  few = w.few;
  within = w.within;
  entry = w.entry;
  reads = w.reads;
  stands = w.stands;
  same = λ runs d. w.same runs (λ s h. omega (arith, g s h, d s h));
  passed = λ runs d. w.passed runs (λ s h. omega (arith, g s h, d s h));
}

-- a group that is looked at again from where the scan got
pub ahead-onward : (m : Limits) (b dones : List ℕ) (from end place at later stands : ℕ) → Ahead m b dones from end place at → Ahead m b dones place end later stands
    → Ahead m b dones from end later stands
ahead-onward m b dones from end place at later stands w v = record {
  few = v.few;
  within = v.within;
  entry = v.entry;
  reads = v.reads;
  stands = v.stands;
  same = λ runs d. v.same runs d ∙ w.same runs d;
  passed = λ runs d. v.passed runs d ∙ w.passed runs d;
}

-- if anything is ready to be done, it is the access that was found
found_open : (runs : List TaskRun) (from : ℕ) (x : Reading Entry) (w : Found) → found from x ≡ Ok w → is_open (judged runs from x) ≡ true
    → may_go w.op w.next ≡ judged runs from x
unfolding found judged
found_open runs from (Err c) w h k = absurd (let z : ◌≡◌ {A = ℕ} 0 1 = cc in omega arith)
found_open runs from (Ok e) w h k = elim (split (all_met runs e.orderings)) [
  | passes p ↦
      let z : found_in from e ≡ w = cc in
      rw (p, ← z)
  | fails p ↦ absurd (let y = rw p at k in let z : ◌≡◌ {A = ℕ} 0 1 = cc in omega arith)
]

-- a met ordering in front makes no difference, an unmet one holds up the group
module _ (runs : List TaskRun) (place : ℕ) (p : Position) (e : Entry) where
  judged-met : p.number ≤ done_of runs p.task → judged runs (place + 8) (Ok e) ≡ judged runs place (Ok (record { orderings = p ∷ e.orderings; op = e.op }))
  unfolding judged all_met
  judged-met h =
      let o : place + 8 + entry_length e ≡ place + entry_length (record { orderings = p ∷ e.orderings; op = e.op }) = omega arith in
      let m : all_met runs (p ∷ e.orderings) ≡ all_met runs e.orderings = ap (λ (t : Bool). t && all_met runs e.orderings) (le-leb _ _ h) in
      rw (m, o)

  judged-unmet : done_of runs p.task < p.number → judged runs place (Ok (record { orderings = p ∷ e.orderings; op = e.op })) ≡ Ok None
  unfolding judged all_met
  judged-unmet h = rw (lt-leb p.number (done_of runs p.task) h)

  unmet-met : p.number ≤ done_of runs p.task → unmet_in runs (place + 8) (Ok e) ≡ unmet_in runs place (Ok (record { orderings = p ∷ e.orderings; op = e.op }))
  unfolding unmet_in unmet_of
  unmet-met h = rw (le-leb p.number (done_of runs p.task) h)

  unmet-here : done_of runs p.task < p.number → unmet_in runs place (Ok (record { orderings = p ∷ e.orderings; op = e.op })) ≡ first place p
  unfolding unmet_in unmet_of
  unmet-here h = rw (lt-leb p.number (done_of runs p.task) h)

module _ (m : Limits) (b dones : List ℕ) (from end place at : ℕ) (w : Ahead m b dones from end place at) where
  ahead_case : EntryCase m place (part place end b) w.entry
  ahead_case = entry_case m place (part place end b) w.entry (stop InBody place) w.reads

  count-more : (x : More m place (part place end b) w.entry) → length w.entry.orderings ≡ length x.rest.orderings + 1
  count-more x = rw x.same (omega arith)

  passing : (x : More m place (part place end b) w.entry) → Passing m b dones from end place at x.first
  passing x =
      let i : x.first.task < max_tasks = omega (arith, x.below, w.few) in
      let q : group_at m b place end ≡ Ok (record { orderings = x.first ∷ x.rest.orderings; op = x.rest.op }) = w.reads ∙ ap Ok x.same in
      let y : group_at m b (place + 8) end ≡ Ok x.rest = entry_ended m (stop Misplaced place) _ (place + 8) _ x.rest (rw (part-drop 8 place end b) at x.reads) in
      record {
        room = omega (arith, x.within, part_length place end b w.within, w.within);
        below = i;
        met = λ h. record {
          few = w.few;
          within = w.within;
          entry = x.rest;
          reads = y;
          stands = omega (arith, w.stands, count-more x);
          same = λ runs d. rw y (judged-met runs place x.first x.rest (omega (arith, h, d x.first.task i))) ∙ (rw q at (w.same runs d));
          passed = λ runs d. rw y (unmet-met runs place x.first x.rest (omega (arith, h, d x.first.task i))) ∙ (rw q at (w.passed runs d));
        };
        unmet = λ h runs e.
            sym (judged-unmet runs place x.first x.rest (rw (done_at_lem dones runs e x.first.task i) at h))
            ∙ (rw q at (w.same runs (done_all dones runs e)));
        here = λ h runs e.
            sym (unmet-here runs place x.first x.rest (rw (done_at_lem dones runs e x.first.task i) at h))
            ∙ (rw q at (w.passed runs (done_all dones runs e)));
      }

  -- the access comes later: there is an ordering here
  pub ahead_turn : place < at → Passing m b dones from end place at (ordering_at b place)
  ahead_turn h = elim ahead_case [
    | last x ↦ absurd (omega (arith, w.stands, ap length x.none))
    | more x ↦ rw (← more-at m b place end w.entry w.within x) (passing x)
  ]

  -- all orderings are met
  open_read : (runs : List TaskRun) (e : Entry) → e.orderings ≡ [] → is_open (judged runs place (Ok e)) ≡ true
  unfolding judged all_met
  open_read runs e h = rw h

  ahead_open : at ≤ place → (runs : List TaskRun) → dones_of runs ≡ dones → is_open (judged runs from (group_at m b from end)) ≡ true
  ahead_open h runs e = elim ahead_case [
    | last x ↦ rw (← w.same runs (done_all dones runs e), w.reads) (open_read runs w.entry x.none)
    | more x ↦ absurd (omega (arith, w.stands, count-more x))
  ]

  none_read : (runs : List TaskRun) (e : Entry) → e.orderings ≡ [] → none ≡ unmet_in runs place (Ok e)
  unfolding unmet_in unmet_of
  none_read runs e h = rw h

  ahead_none : at ≤ place → Holds m b dones from end none
  ahead_none h = λ runs e. elim ahead_case [
    | last x ↦ rw (← w.passed runs (done_all dones runs e), w.reads) (none_read runs w.entry x.none)
    | more x ↦ absurd (omega (arith, w.stands, count-more x))
  ]

  -- where the scan stops
  pub stops_before : place < at → Holds m b dones from end (first place (ordering_at b place)) → Holds m b dones from end (unmet_at b place at)
  unfolding unmet_at
  stops_before h k = rw (lt-ltb place at h) k

  pub stops_behind : at ≤ place → Holds m b dones from end (unmet_at b place at)
  unfolding unmet_at
  stops_behind h = rw (le-ltb place at h) (ahead_none h)

  -- the rest, looked at by itself
  pub ahead-rest : (n : Next) → Looks dones place (group_at m b place end) n → Looks dones from (group_at m b from end) n
  ahead-rest n k = λ runs e. k runs e ∙ w.same runs (done_all dones runs e)

-- what is found where a group is read
module _ (m : Limits) (b dones : List ℕ) (from end : ℕ) (f : Reading Found) (e : f ≡ found from (group_at m b from end)) where
  pub next-refused : (c : Refusal) → f ≡ Err c → Looks dones from (group_at m b from end) (Err c)
  unfolding judged
  next-refused c q = λ runs h. rw (found-refused from (group_at m b from end) c (sym e ∙ q))

  pub holds-refused : (c : Refusal) → f ≡ Err c → Holds m b dones from end (unmet_at b 0 0)
  unfolding unmet_at unmet_in
  holds-refused c q = λ runs h. rw (found-refused from (group_at m b from end) c (sym e ∙ q))

  module _ (w : Found) (q : f ≡ Ok w) where
    pub ahead-start : m.tasks ≤ max_tasks → end ≤ length b → Ahead m b dones from end from w.at
    ahead-start h l =
        let v = found-entry from (group_at m b from end) w (sym e ∙ q) in
        record { few = h; within = l; entry = v.entry; reads = v.reads; stands = v.place; same = λ runs d. refl; passed = λ runs d. refl }

    pub next_open : (place : ℕ) → Ahead m b dones from end place w.at → w.at ≤ place → Looks dones from (group_at m b from end) (may_go w.op w.next)
    next_open place v h = λ runs d. found_open runs from (group_at m b from end) w (sym e ∙ q) (ahead_open m b dones from end place w.at v h runs d)
