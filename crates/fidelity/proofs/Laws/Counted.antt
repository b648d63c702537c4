-- The records of a box's recording, counted over its calls.
use Rattle.std.specs.Prelude.{List, [], ◌∷◌, ◌++◌, ◌≡◌, refl, ℕ, zero, suc, ◌+◌, ◌≤◌, ◌<◌, length}
use Rattle.std.proofs.Common.{◌∙◌, arith, eq-eqb, ne_eqb, length-append}
use Rattle.std.proofs.Math.Decide.{ℕ_discrete}
use Rattle.entries.specs.Recording.{Entry as FileEntry}
use Rattle.history.specs.Entry.{Entry}
use Rattle.history.specs.History.{History, At, here, there}
use Rattle.recorder.specs.WholeRun.{Call, Box, left_by}
use Rattle.tracker.proofs.Laws.Tracks.{tracks_tasks}
use Rattle.replayer.proofs.Laws.OpenedOf.{counts-read}
use Rattle.fidelity.specs.Box.{Opening, opened_by, Asked, calls_of, first_box, added_by, recorded_from, recorded, recording_of, recording_by}
use Rattle.fidelity.specs.Counted.{ordering_count, summed_up, written, Counted}
use Rattle.fidelity.specs.Statement.{Accepted}
use Rattle.fidelity.specs.Filed.{filed_of, bodies_from}
use Rattle.fidelity.proofs.Laws.FirstBox.{follows_last}
use Rattle.fidelity.specs.Laws.BoxMatches.{parsed_by}
use Rattle.fidelity.proofs.Laws.BoxMatches.{recording-parsed}
use Rattle.entries.specs.Records.{body_records, sections_records, records_in}

-- an access at the end of a body
body_more : (es : List FileEntry) (e : FileEntry) → body_records (es ++ (e ∷ [])) ≡ body_records es + length e.orderings + 1
unfolding body_records
body_more [] e = omega arith
body_more (x ∷ es) e = omega (arith, body_more es e)

-- it changes no body of a later task
bodies-after : (fields : ℕ) (e : Entry) (h : History) (t k : ℕ) → e.task < t → bodies_from fields (e ∷ h) t k ≡ bodies_from fields h t k
unfolding bodies_from filed_of
bodies-after fields e h t zero l = refl
bodies-after fields e h t (suc k) l = rw (ne_eqb e.task t (λ q. omega arith), bodies-after fields e h (suc t) k (omega arith))

-- so its records are counted once
sections_more : (fields : ℕ) (e : Entry) (h : History) (t k : ℕ) → t ≤ e.task → e.task < t + k
    → sections_records (bodies_from fields (e ∷ h) t k) ≡ sections_records (bodies_from fields h t k) + length e.orderings + 1
unfolding sections_records bodies_from filed_of
sections_more fields e h t zero l m = absurd (omega arith)
sections_more fields e h t (suc k) l m = elim (ℕ_discrete e.task t) [
  | yes p ↦ rw (eq-eqb e.task t p, bodies-after fields e h (suc t) k (omega arith), body_more) (omega arith)
  | no p ↦ rw (ne_eqb e.task t p) (omega (arith, sections_more fields e h (suc t) k (omega arith) (omega arith)))
]

sections_none : (fields t k : ℕ) → sections_records (bodies_from fields [] t k) ≡ k
unfolding sections_records bodies_from filed_of body_records
sections_none fields t zero = refl
sections_none fields t (suc k) = omega (arith, sections_none fields (suc t) k)

sections_all : (fields tasks : ℕ) (h : History) → ((e : Entry) (g : History) → At e g h → e.task < tasks)
    → sections_records (bodies_from fields h 0 tasks) ≡ tasks + ordering_count h + length h
unfolding ordering_count
sections_all fields tasks [] low = omega (arith, sections_none fields 0 tasks)
sections_all fields tasks (e ∷ h) low = omega (arith, sections_more fields e h 0 tasks (omega arith) (omega (arith, low e h here)), sections_all fields tasks h (λ f g a. low f g (there a)))

orderings_joined : (g h : List Entry) → ordering_count (g ++ h) ≡ ordering_count g + ordering_count h
unfolding ordering_count
orderings_joined [] h = omega arith
orderings_joined (e ∷ g) h = omega (arith, orderings_joined g h)

-- what is summed up over the calls is that of all entries recorded
recorded-sum : (f : List Entry → ℕ) → ((g h : List Entry) → f (g ++ h) ≡ f g + f h) → (h : History) (b : Box) (calls : List Call)
    → f (recorded_from h b calls) ≡ f h + summed_up f b calls
unfolding recorded_from summed_up
recorded-sum f joins h b [] = omega arith
recorded-sum f joins h b (c ∷ calls) = omega (arith, recorded-sum f joins ((added_by b c).entries ++ h) (left_by b c) calls, joins (added_by b c).entries h)

pub counted-value : (o : Opening) (asked : List Asked) → (opened_by o).answer.number ≡ 0 → records_in (recording_by o asked) ≡ written o asked
unfolding records_in ordering_count
counted-value o asked accepted =
    let f = follows_last o accepted asked in
    omega (
      arith,
      sections_all o.fields o.tasks (recorded o asked) (λ e g a. rw f.tasks_are at (tracks_tasks f.tracks a)),
      recorded-sum length (λ g h. length-append g h) [] (first_box o) (calls_of asked),
      recorded-sum ordering_count orderings_joined [] (first_box o) (calls_of asked),
    )

pub counted : (o : Opening) (asked : List Asked) (outs : ℕ → List ℕ) (memory : List ℕ) → Accepted o asked outs memory → Counted o asked outs memory
counted o asked outs memory a =
    let c = counted-value o asked a.opened in
    record {
      records = c;
      opened = counts-read (recording_of o asked outs) memory (parsed_by o asked) (recording-parsed o a.opened asked outs a.packed) a.replayed ∙ c;
    }
