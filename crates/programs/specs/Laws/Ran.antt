-- A text's session is the result of a list of calls from its opening, all of them accepted, with the bytes in its logs counted.
use Rattle.std.specs.Prelude.{◌≡◌, Option, Some, None, Bool, true, false, cond, ◌&&◌, eqb, ltb, length, take, replicate}
use Rattle.std.proofs.Math.Path.{refl, ap, sym}
use Rattle.std.proofs.Common.{◌∙◌, add-one}
use mathlib.Core.List.{List, [], ◌∷◌, ◌++◌, map, map-append, append_assoc, append-nil}
use Prim.Native.Nat.{ℕ, zero, suc, ◌+◌, ◌-◌, ◌<◌, ◌≤◌}
use native.Mathlib.Omega.{arith}
use borrow.Author.Tests.{ne_eqb, eqb-true, eqb-false}
use Rattle.std.proofs.Math.ListN.{length-append}
use Rattle.std.proofs.lemmas.List.{length-replicate}
use Rattle.codec.specs.Cell.{cell_of}
use Rattle.codec.specs.Laws.Decide.{passes, fails, split}
use Rattle.history.specs.History.{History}
use Rattle.recorder.specs.AccessOf.{is_write, access_number, accepted, refused, access_of, value_after}
use Rattle.recorder.proofs.Laws.Accepted.{number-takes, written-length as entry-written}
use Rattle.recorder.specs.WholeRun.{Call, AccessCall, Box, outcome, called, left_by, called_all}
use Rattle.tracker.specs.declared.State.{State}
use Rattle.fidelity.specs.Box.{Opening, opened_by, Asked, calls_of, first_box, last_box, accepts, added_by, recorded_from, recorded}
use Rattle.fidelity.proofs.Laws.FirstBox.{follows_last}
use Rattle.codec.specs.Laws.Store.{store-front}
use Rattle.programs.specs.Laws.Numbered.{Numbered}
use Rattle.programs.specs.Wanted.{wanted_in, wanted_by}
use Rattle.lines.specs.Asked.{read_by, write_by, plain_of, fielded_of, asked_of}
use Rattle.lines.specs.declared.field.Field.{Field}
use Rattle.lines.specs.Field.{is_number, value_of}
use Rattle.lines.specs.Laws.Rows.{numbers_low}
use Rattle.lines.specs.Number.{number_limit}
use Rattle.std.specs.Option.{unwrap_or}
use Rattle.std.proofs.lemmas.Option.{none-some, same_Some}
use Rattle.lines.specs.declared.asked.Asked.{Asked as AskedLine}
use Rattle.lines.specs.Fields.{fields_of}
use Rattle.lines.specs.Lines.{Line}
use Rattle.logs.specs.Laws.Room.{access-same}
use Rattle.logs.specs.Session.{Session, most, names_field, sort_of, call_of, stopped_at, asking, judged, fed, fed_all}

-- the number of bytes in the logs of the tasks below k
unfoldable pub sum_logs : (ℕ → List ℕ) → ℕ → ℕ
sum_logs logs zero = 0
sum_logs logs (suc k) = sum_logs logs k + length (logs k)

pub sum-none : (k : ℕ) → sum_logs (λ t. []) k ≡ 0
unfolding sum_logs
sum-none zero = refl
sum-none (suc k) = omega (arith, sum-none k)

module _ (logs : ℕ → List ℕ) (bytes : List ℕ) (task : ℕ) where
  sum-other : (k : ℕ) → k ≤ task → sum_logs (λ t. cond (eqb task t) (logs t ++ bytes) (logs t)) k ≡ sum_logs logs k
  unfolding sum_logs
  sum-other zero h = refl
  sum-other (suc k) h = rw (ne_eqb task k (λ e. omega arith), sum-other k (omega arith))

  sum_more : (k : ℕ) → task < k → sum_logs (λ t. cond (eqb task t) (logs t ++ bytes) (logs t)) k ≡ sum_logs logs k + length bytes
  unfolding sum_logs
  sum_more zero h = absurd (let z : ⊥ = omega arith in z)
  sum_more (suc k) h = elim (split (eqb task k)) [
    | passes p ↦ let e = eqb-true task k p in rw (p, sum-other k (omega arith), length-append) (omega arith)
    | fails p ↦ rw (p, sum_more k (omega (arith, eqb-false task k p))) (omega arith)
  ]

-- one more call
last_more : (b : Box) (asked : List Asked) (x : Asked) → called_all b (calls_of (asked ++ (x ∷ []))) ≡ left_by (called_all b (calls_of asked)) x.call
unfolding called_all
last_more b [] x = refl
last_more b (a ∷ asked) x = last_more (left_by b a.call) asked x

-- one more access is recorded if it is accepted
count-more : (h : History) (b : Box) (asked : List Asked) (c : AccessCall) (v : c.value < 4294967296) → accepts (called_all b (calls_of asked)) c ≡ true
    → length (recorded_from h b (calls_of (asked ++ (record { call = Call.access c; fits = v } ∷ [])))) ≡ length (recorded_from h b (calls_of asked)) + 1
unfolding called_all recorded_from
count-more h b [] c v p = rw p (sym (add-one (length h)))
count-more h b (a ∷ asked) c v p = count-more ((added_by b a.call).entries ++ h) (left_by b a.call) asked c v p

-- an access writes as many bytes as its answer says
written-length : (s : State) (task object field sort value : ℕ) (memory out : List ℕ) →
    let x = access_of s task object field sort value memory out in length (take x.answer.written x.out) ≡ x.answer.written
unfolding access_of accepted refused
written-length s task object field sort value memory out = elim (split (eqb (access_number s task object field sort (length memory) (length out)) 0)) [
  | fails p ↦ rw p
  | passes p ↦
      let t = number-takes s task object field sort value memory out (rw p) in
      let e = entry-written s task object field (is_write sort) (value_after (is_write sort) (cell_of s.fields object field) value memory) in
      rw (p, store-front out _ _ e t.room, e)
]

-- a line that is not malformed has a value that fits
read-fits : (right : Bool) (t o i : Field) (a : AskedLine) → read_by right t o i ≡ Some a → unwrap_or a.value 0 < number_limit
unfolding read_by
read-fits right t o i a e = elim (split (right && (is_number t && (is_number o && is_number i)))) [
  | passes p ↦ rw (← same_Some _ _ (rw p at e)) (omega arith)
  | fails p ↦ absurd (none-some a (rw p at e))
]

write-fits : (right : Bool) (t o i v : Field) (a : AskedLine) → value_of v < number_limit → write_by right t o i v ≡ Some a → unwrap_or a.value 0 < number_limit
unfolding write_by
write-fits right t o i v a h e = elim (split (right && (is_number t && (is_number o && (is_number i && is_number v))))) [
  | passes p ↦ rw (← same_Some _ _ (rw p at e)) h
  | fails p ↦ absurd (none-some a (rw p at e))
]

-- the two lengths that a line may have
fits_by : (f : List Field) (n : ℕ) (x y : Option AskedLine) (a : AskedLine) → (x ≡ Some a → unwrap_or a.value 0 < number_limit) → (y ≡ Some a → unwrap_or a.value 0 < number_limit)
    → cond (eqb (length f) n) x (cond (eqb (length f) (n + 1)) y None) ≡ Some a → unwrap_or a.value 0 < number_limit
fits_by f n x y a h k g = elim (split (eqb (length f) n)) [
  | passes p ↦ h (rw p at g)
  | fails p ↦ elim (split (eqb (length f) (n + 1))) [ passes q ↦ k (rw (p, q) at g) | fails q ↦ absurd (none-some a (rw (p, q) at g)) ]
]

asked-fits : (named : Bool) (line : List ℕ) (a : AskedLine) → asked_of named (fields_of line) ≡ Some a → unwrap_or a.value 0 < number_limit
unfolding plain_of fielded_of
asked-fits true line a g = fits_by (fields_of line) 4 _ _ a (read-fits _ _ _ _ a) (write-fits _ _ _ _ _ a (numbers_low line 4)) g
asked-fits false line a g = fits_by (fields_of line) 3 _ _ a (read-fits _ _ _ _ a) (write-fits _ _ _ _ _ a (numbers_low line 3)) g

module _ (o : Opening) (z : (opened_by o).answer.number ≡ 0) (base : ℕ) where
  abbrev named : Bool
  named = ltb 0 o.fields

  -- a session that these lines led to from the opening: one call for each of them, in order, one access recorded for each, and the bytes
  -- in the logs counted
  pub record Ran (ls : List Line) (s : Session) : Type 0 where
    pub asked : List Asked
    pub box : s.box ≡ last_box o asked
    pub total : s.total ≡ base + sum_logs s.box.logs o.tasks
    pub fits : s.total ≤ most
    pub asks : s.line ≡ 0 → map wanted_by asked ≡ map (wanted_in named) ls
    pub counted : s.line ≡ 0 → length (recorded o asked) ≡ length ls

  ran_stop : (ls : List Line) (s : Session) (l : Line) (line number : ℕ) → 1 ≤ line → Ran ls s → Ran (ls ++ (l ∷ [])) (stopped_at s line number)
  unfolding stopped_at
  ran_stop ls s l line number h r = record {
    asked = r.asked;
    box = r.box;
    total = r.total;
    fits = r.fits;
    asks = λ e. absurd (let z : ⊥ = omega arith in z);
    counted = λ e. absurd (let z : ⊥ = omega arith in z);
  }

  ran_asking : (ls : List Line) (s : Session) (l : Line) → 1 ≤ l.number → s.line ≡ 0 → Ran ls s → (a : AskedLine) → asked_of named (fields_of l.bytes) ≡ Some a
      → Ran (ls ++ (l ∷ [])) (asking s l.number (call_of s.total a))
  unfolding asking called outcome
  ran_asking ls s l h i r a g =
      let b = s.box in
      let c = call_of s.total a in
      let v = asked-fits named l.bytes a g in
      let x : Asked = record { call = Call.access c; fits = v } in
      let same = access-same b.state a.task a.object a.field (sort_of a.value) (unwrap_or a.value 0) b.memory (replicate (most - s.total) 0) (most - s.total) (length-replicate {A = ℕ} (most - s.total) 0) in
      elim (split (eqb (outcome b c).answer.number 0)) [
        | fails p ↦ rw p (ran_stop ls s l l.number (outcome b c).answer.number h r)
        | passes p ↦
            let t = number-takes b.state a.task a.object a.field (sort_of a.value) (unwrap_or a.value 0) b.memory (replicate (most - s.total) 0) (eqb-true _ _ p) in
            let e : b.state.tasks ≡ o.tasks = ap (λ (y : Box). y.state.tasks) r.box ∙ (follows_last o z r.asked).tasks_are in
            let w = written-length b.state a.task a.object a.field (sort_of a.value) (unwrap_or a.value 0) b.memory (replicate (most - s.total) 0) in
            let m = sum_more b.logs (take (outcome b c).answer.written (outcome b c).out) a.task o.tasks (omega (arith, t.facts.accepts.task_low, e)) in
            let k = count-more [] (first_box o) r.asked c v (ap (λ (y : Box). accepts y c) (sym r.box) ∙ p) in
            rw p (record {
              asked = r.asked ++ (x ∷ []);
              box = ap (λ (y : Box). called y c) r.box ∙ sym (last_more (first_box o) r.asked x);
              total = omega (arith, r.total, m, w);
              fits = omega (arith, r.fits, same.within);
              asks = λ _. rw (map-append wanted_by r.asked (x ∷ []), map-append (wanted_in named) ls (l ∷ []), r.asks i, g);
              counted = λ _. rw length-append (omega (arith, k, r.counted i));
            })
      ]

  ran_judged : (ls : List Line) (s : Session) (l : Line) → 1 ≤ l.number → s.line ≡ 0 → Ran ls s → (a : Option AskedLine) → asked_of named (fields_of l.bytes) ≡ a
      → Ran (ls ++ (l ∷ [])) (judged s l.number a)
  unfolding judged
  ran_judged ls s l h i r None g = ran_stop ls s l l.number 0 h r
  ran_judged ls s l h i r (Some a) g = ran_asking ls s l h i r a g

  -- the state keeps the opening's number of fields
  names : (ls : List Line) (s : Session) → Ran ls s → names_field s.box.state ≡ named
  names ls s r = ap (λ (y : Box). ltb 0 y.state.fields) r.box ∙ ap (ltb 0) (follows_last o z r.asked).fields_are

  ran_fed : (ls : List Line) (s : Session) (l : Line) → 1 ≤ l.number → Ran ls s → Ran (ls ++ (l ∷ [])) (fed s l)
  unfolding fed
  ran_fed ls s l h r = elim (split (eqb s.line 0)) [
    | fails p ↦ rw p (record {
      asked = r.asked;
      box = r.box;
      total = r.total;
      fits = r.fits;
      asks = λ e. absurd (eqb-false _ _ p e);
      counted = λ e. absurd (eqb-false _ _ p e);
    })
    | passes p ↦ rw (p, names ls s r) (ran_judged ls s l h (eqb-true _ _ p) r (asked_of named (fields_of l.bytes)) refl)
  ]

  pub ran_all : (before : List Line) (s : Session) (ls : List Line) → Numbered ls → Ran before s → Ran (before ++ ls) (fed_all s ls)
  unfolding fed_all Numbered
  ran_all before s [] h r = rw append-nil r
  ran_all before s (l ∷ ls) h r = rw append_assoc at (ran_all (before ++ (l ∷ [])) (fed s l) ls h.1 (ran_fed before s l h.0 r))
