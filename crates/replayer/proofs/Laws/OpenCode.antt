-- One pass of each loop of the opening, and the opening as the code does it.
use Rattle.codec.specs.Reason.{number_of}
use Rattle.std.specs.Prelude.{Err, Ok, ◌≡◌, List, ℕ, zero, suc, ◌+◌, ◌-◌, ◌<◌, min, get_or, set}
use Rattle.std.proofs.Math.Path.{refl}
use Rattle.std.proofs.Common.{ap₂, sym, ◌∙◌, add-one, arith}
use Rattle.std.proofs.Math.Decide.{dec_lt}
use Rattle.std.proofs.Math.ListN.{length}
use Rattle.std.proofs.Math.Seq.{set_out}
use borrow.Author.Tests.{eq-eqb, ne_eqb}
use Rattle.reader.specs.declared.Span.{Span}
use Rattle.reader.specs.declared.layout.Layout.{Layout}
use Rattle.reader.specs.Calls.{no_span}
use Rattle.reader.specs.Laws.Laid.{Laid, Valued, parse-valued}
use Rattle.reader.specs.Laws.Located.{Reads, Refuses, reads, refuses}
use Rattle.entries.specs.declared.Refusal.{Refusal}
use Rattle.reader.specs.Layout.{layout_of}
use Rattle.reader.specs.Parse.{Parsed, parse}
use Rattle.reader.specs.Starting.{starting_in}
use Rattle.reader.specs.Laws.Starting.{starting_there, facts_fit}
use Rattle.codec.specs.Number.{entries as wrong_length}
use Rattle.codec.specs.Limit.{max_tasks}
use Rattle.pending.specs.Run.{blank_tasks}
use Rattle.replayer.proofs.Laws.OpenOf.{starts-length}
use Rattle.replayer.specs.OpenOf.{start_of, starts_of, begun_of, opened_run, on_parse, open_of}
use Rattle.replayer.specs.OpenedOf.{records_for}
use Rattle.codec.specs.Cell.{cells_of}
use Rattle.reader.specs.Laws.Standing.{Standing, parse-stands}
use Rattle.replayer.specs.Laws.OpenCode.{Opening, Refusing}

-- the tasks
pub starts_none : (spans : List Span) → starts_of spans 0 ≡ blank_tasks
unfolding starts_of
starts_none spans = refl

pub starts_more : (spans : List Span) (n : ℕ) → starts_of spans (n + 1) ≡ set (starts_of spans n) n (start_of (get_or spans n no_span))
unfolding starts_of
starts_more spans n = rw add-one

-- no task from 16 on is set
pub starts_clipped : (spans : List Span) (n : ℕ) → starts_of spans (min n max_tasks) ≡ starts_of spans n
starts_clipped spans n = elim (dec_lt n (max_tasks + 1)) [
  | yes h ↦ let e : min n max_tasks ≡ n = omega arith in rw e
  | no h ↦ let e : min n max_tasks ≡ max_tasks = omega (arith, h) in let f : n ≡ max_tasks + (n - max_tasks) = omega (arith, h) in rw e (rw f (sym (beyond (n - max_tasks))))
]
  where
    beyond : (k : ℕ) → starts_of spans (max_tasks + k) ≡ starts_of spans max_tasks
    beyond zero = refl
    beyond (suc k) =
        let e : max_tasks + suc k ≡ (max_tasks + k) + 1 = omega arith in
        rw (e, starts_more spans (max_tasks + k), set_out (starts_of spans (max_tasks + k)) (max_tasks + k) (start_of (get_or spans (max_tasks + k) no_span)) (omega (arith, starts-length spans (max_tasks + k)))) (beyond k)

starts-same : (a b : List Span) (n : ℕ) → ((t : ℕ) → t < n → get_or a t no_span ≡ get_or b t no_span) → starts_of a n ≡ starts_of b n
unfolding starts_of
starts-same a b zero h = refl
starts-same a b (suc n) h = rw (h n (omega arith), starts-same a b n (λ t k. h t (omega arith)))

-- the run at the start of a layout is the recording's
pub begun_opened : (l : Layout) (p : Parsed) → Laid p l → begun_of l ≡ opened_run p
begun_opened l p w = rw (w.tasks, w.objects, w.fields, starts-same l.spans p.spans p.recording.tasks w.span)

module _ (b memory : List ℕ) where
  pub open_bytes : (c : Refusal) → Err c ≡ layout_of (parse b) → Refusing b memory (number_of c.reason) c.offset
  unfolding open_of on_parse records_for
  open_bytes c e = let w : Refuses b c = refuses b c e in record { answer = rw w.is; records = rw w.is; kept = rw w.is }

  module _ (l : Layout) (e : Ok l ≡ layout_of (parse b)) where
    pub open_length : (length memory ≡ cells_of l.fields l.objects → ⊥) → Refusing b memory wrong_length 0
    unfolding open_of on_parse records_for
    open_length h =
        let w : Reads b l = reads b l e in
        let p = w.parsed in
        let d = ne_eqb (length memory) (cells_of p.recording.fields (length p.recording.owners)) (λ k. h (k ∙ sym w.cells)) in
        record { answer = rw (w.is, d); records = rw (w.is, d); kept = rw (w.is, d) }

    pub open_opens : length memory ≡ cells_of l.fields l.objects → Opening b memory l
    unfolding open_of on_parse records_for
    open_opens h =
        let w : Reads b l = reads b l e in
        let p = w.parsed in
        let v : Valued b p = parse-valued b p w.is in
        let s : Standing b p = parse-stands b p w.is in
        let n : length memory ≡ cells_of p.recording.fields (length p.recording.owners) = h ∙ w.cells in
        let d = eq-eqb (length memory) (cells_of p.recording.fields (length p.recording.owners)) n in
        let f = facts_fit p.recording.fields (length p.recording.owners) (length b) (length memory) (record { few_fields = s.few_fields; few_objects = s.few_objects; within = v.within; cells = n }) in
        let s : starting_in l.fields l.objects b memory ≡ starting_in p.recording.fields (length p.recording.owners) b memory =
        ap₂ (λ (i j : ℕ). starting_in i j b memory) w.laid.fields w.laid.objects in
        record {
          answer = rw (w.is, d, begun_opened l p w.laid);
          records = w.laid.records ∙ rw (w.is, d);
          values = s ∙ rw (starting_there p.recording.fields (length p.recording.owners) b memory f, w.is, d) (sym v.values);
        }
