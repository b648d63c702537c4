-- What is written on both streams, as the code has it, and its cases.
use Rattle.std.specs.Prelude.{◌≡◌, false, Option, Some, None, List, [], ℕ, ◌+◌, ◌≤◌, ◌<◌, eqb, length}
use Rattle.std.proofs.Math.Path.{refl}
use Rattle.std.proofs.Math.Bool.{true}
use Rattle.std.proofs.Common.{arith}
use borrow.Author.Tests.{eq-eqb, ne_eqb, eqb-true, le-leb, lt-leb, lt-ltb, le-ltb}
use Rattle.std.proofs.Math.ListN.{length-append}
use Rattle.codec.specs.Field.{Bytes}
use Rattle.codec.specs.Laws.Decide.{passes, fails, split}
use Rattle.codec.specs.Limit.{max_tasks}
use Rattle.codec.specs.Number.{entries as wrong_length}
use Rattle.order.specs.Order.{wrong_line, tasks_of}
use Rattle.reader.specs.Parse.{parse}
use Rattle.replayer.specs.declared.Opened.{Opened as OpenAnswer}
use Rattle.replayer.proofs.Laws.OpenOf.{opened-stands}
use Rattle.replay_lines.specs.declared.Written.{Written}
use Rattle.replay_lines.proofs.Laws.LinesBound.{refusal_few}
use Rattle.replay_lines.specs.Limits.{longest, most_steps}
use Rattle.replay_lines.specs.Lines.{long_line, refusal_of}
use Rattle.replay_lines.specs.Streams.{Streams}
use Rattle.pending.specs.declared.Run.{Run}
use Rattle.pending.proofs.Laws.Sound.{sound_facts}
use Rattle.scheduler.specs.Finish.{left_over}
use Rattle.scheduler.proofs.Laws.Opened.{opened-left}
use Rattle.scheduler.specs.Schedule.{schedule_of}
use Rattle.text.specs.Appended.{Appended}
use Rattle.text.specs.Laws.Appended.{nothing, joined}
use Rattle.text.specs.Laws.Decimal.{decimal_short, field-length}
use Rattle.replayer.specs.Laws.ByHead.{Opening, away, found}
use Rattle.transcript.proofs.Laws.TextBound.{opened_small}
use Rattle.waits.specs.Differ.{differ_of}
use Rattle.waits.specs.Waits.{waits_most}
use Rattle.pause.specs.Ending.{ending_of, told_of, waits_at, why_of, said_of}
use Rattle.follow.specs.Follow.{Followed, followed_of}
use Rattle.pause.specs.Laws.Keeps.{Standing}
use Rattle.pause.specs.Request.{Request, steps_of, has_counts, can_follow, long_order, wrong_order, complaint_of}
use Rattle.pause.specs.Text.{answer_of, asked_of, spoken_of, longest_text}
use Rattle.follow.specs.Within.{run_within}

pub record Spoken (s : Streams) (out why out' why' : List ℕ) (r : Written) : Type 0 where
  pub text : Appended s.text out 0 out' r.text
  pub reasons : Appended s.reasons why 0 why' r.reasons
  pub text_few : length s.text ≤ longest_text
  pub reasons_few : length s.reasons ≤ waits_most

-- the answer of an opening
module _ (q : Request) (b : List ℕ) (o : OpenAnswer) (m : List ℕ) (e : Opening b o m) (out why : List ℕ) where
  refused_so : (o.number ≡ 0 → ⊥) → answer_of q b (parse b) ≡ record { text = refusal_of o.number o.offset; reasons = [] }
  unfolding answer_of
  refused_so z = elim e [
    | away c p n k r ↦ rw (n, k, p)
    | found p k n r v ↦ absurd (z n)
  ]

  pub answer-refused : (o.number ≡ 0 → ⊥) → (out' : List ℕ) (end : ℕ) → Appended (refusal_of o.number o.offset) out 0 out' end
      → Spoken (answer_of q b (parse b)) out why out' why (record { text = end; reasons = 0 })
  answer-refused z out' end p = rw (refused_so z) (record { text = p; reasons = nothing why 0; text_few = omega (arith, refusal_few o.number o.offset); reasons_few = omega arith })

  short_so : o.number ≡ 0 → has_counts q.counts o.run.tasks ≡ false → answer_of q b (parse b) ≡ record { text = refusal_of wrong_length 0; reasons = [] }
  unfolding answer_of
  short_so z h = elim e [
    | away c p n k r ↦ absurd (omega (arith, r.0))
    | found p k n r v ↦ rw (k, rw r at h)
  ]

  pub answer-short : o.number ≡ 0 → has_counts q.counts o.run.tasks ≡ false → (out' : List ℕ) (end : ℕ) → Appended (refusal_of wrong_length 0) out 0 out' end
      → Spoken (answer_of q b (parse b)) out why out' why (record { text = end; reasons = 0 })
  answer-short z h out' end p = rw (short_so z h) (record { text = p; reasons = nothing why 0; text_few = omega (arith, refusal_few wrong_length 0); reasons_few = omega arith })

  -- an opened replay: it can be played, its steps have room, and what is written is what its steps give
  pub record Opened : Type 0 where
    pub standing : Standing b q.counts (record { run = o.run; memory = m; steps = 0 })
    pub left : left_over o.run ≤ most_steps
    pub answer : answer_of q b (parse b) ≡ said_of b q.counts (followed_of b q.most q.counts (record { run = o.run; memory = m; steps = 0 }) (steps_of q b o.run))

  few-counts : (n : ℕ) → n ≤ max_tasks → has_counts q.counts n ≡ true → length q.counts ≤ max_tasks
  unfolding has_counts
  few-counts n h p = elim (split (eqb (length q.counts) 0)) [
    | passes a ↦ omega (arith, eqb-true (length q.counts) 0 a)
    | fails a ↦ omega (arith, eqb-true (length q.counts) n (rw a at p))
  ]

  pub opened : Bytes b → length b ≤ longest → o.number ≡ 0 → has_counts q.counts o.run.tasks ≡ true → Opened
  unfolding answer_of
  opened by h z c = elim e [
    | away d p n k r ↦ absurd (omega (arith, r.0))
    | found p k n r v ↦
        let s = opened_small b p by k h in
        let w : has_counts q.counts p.recording.tasks ≡ true = rw r at c in
        record {
          standing = rw (r, v) (record { small = s; few = few-counts _ (sound_facts _ _ s.playing.sound).few_tasks w; held = λ t i. omega (arith, (opened-stands b p k).done t) });
          left = rw r (omega (arith, opened-left b p by k));
          answer = rw (r, v, k, w);
        }
  ]

-- no order, and the order as text
pub asked_plain : (most : ℕ) (counts b : List ℕ) → asked_of most counts None b ≡ answer_of (record { most = most; counts = counts; order = None }) b (parse b)
unfolding asked_of
asked_plain most counts b = refl

module _ (most : ℕ) (counts order b : List ℕ) where
  pub asked-ordered : length order ≤ longest → wrong_line order ≡ 0 → asked_of most counts (Some order) b ≡ answer_of (record { most = most; counts = counts; order = Some (tasks_of order) }) b (parse b)
  unfolding asked_of can_follow
  asked-ordered h z = rw (le-leb (length order) longest h, eq-eqb (wrong_line order) 0 z)

  pub asked_wrong : length order ≤ longest → (wrong_line order ≡ 0 → ⊥) → asked_of most counts (Some order) b ≡ record { text = []; reasons = wrong_order (wrong_line order) }
  unfolding asked_of can_follow complaint_of
  asked_wrong h z = rw (le-leb (length order) longest h, ne_eqb (wrong_line order) 0 z, le-ltb longest (length order) h)

  pub asked-long : longest < length order → asked_of most counts (Some order) b ≡ record { text = []; reasons = long_order }
  unfolding asked_of can_follow complaint_of
  asked-long h = rw (lt-leb (length order) longest h, lt-ltb longest (length order) h)

pub wrong_few : (line : ℕ) → length (wrong_order line) ≤ 60
wrong_few line = simp length-append (omega (arith, field-length line 32, decimal_short line))

-- nothing but a reason
pub complains : (w out why why' : List ℕ) (end : ℕ) → length w ≤ waits_most → Appended w why 0 why' end → Spoken (record { text = []; reasons = w }) out why out why' (record { text = 0; reasons = end })
complains w out why why' end h p = record { text = nothing out 0; reasons = p; text_few = omega arith; reasons_few = h }

-- the steps, how they ended, and why
module _ (b counts : List ℕ) (f : Followed) (out why : List ℕ) (few : length (told_of b f) ≤ longest_text) (why_few : length (why_of b counts f) ≤ waits_most) where
  pub said_stopped : (f.stopped.number ≡ 0 → ⊥) → (o : List ℕ) (j : ℕ) → Appended f.text out 0 o j → (out' : List ℕ) (end : ℕ) → Appended (refusal_of f.stopped.number f.stopped.offset) o j out' end
      → (why' : List ℕ) (n : ℕ) → Appended (differ_of f.play.run.fields b f.play.memory f.stopped.offset) why 0 why' n → Spoken (said_of b counts f) out why out' why' (record { text = end; reasons = n })
  unfolding told_of why_of
  said_stopped z o j p out' end g why' n k = record { text = rw (ne_eqb f.stopped.number 0 z) (joined p g); reasons = rw (ne_eqb f.stopped.number 0 z) k; text_few = few; reasons_few = why_few }

  pub said_ended : f.stopped.number ≡ 0 → (o : List ℕ) (j : ℕ) → Appended f.text out 0 o j → (out' : List ℕ) (end : ℕ) → Appended (ending_of b f.play) o j out' end
      → (why' : List ℕ) (n : ℕ) → Appended (waits_at b (run_within counts f.play.run)) why 0 why' n → Spoken (said_of b counts f) out why out' why' (record { text = end; reasons = n })
  unfolding told_of why_of
  said_ended z o j p out' end g why' n k = record { text = rw (eq-eqb f.stopped.number 0 z) (joined p g); reasons = rw (eq-eqb f.stopped.number 0 z) k; text_few = few; reasons_few = why_few }

  -- what is written after the lines has room
  pub refusal_room : (f.stopped.number ≡ 0 → ⊥) → length f.text + length (refusal_of f.stopped.number f.stopped.offset) ≤ longest_text
  unfolding told_of
  refusal_room z = omega (arith, simp length-append at (rw (ne_eqb f.stopped.number 0 z) at few))

  pub ending_room : f.stopped.number ≡ 0 → length f.text + length (ending_of b f.play) ≤ longest_text
  unfolding told_of
  ending_room z = omega (arith, simp length-append at (rw (eq-eqb f.stopped.number 0 z) at few))

-- the steps asked for
pub steps-given : (q : Request) (b : List ℕ) (r : Run) (tasks : List ℕ) → q.order ≡ Some tasks → steps_of q b r ≡ tasks
unfolding steps_of
steps-given q b r tasks e = rw e

pub steps-lowest : (q : Request) (b : List ℕ) (r : Run) → q.order ≡ None → steps_of q b r ≡ schedule_of b (run_within q.counts r)
unfolding steps_of
steps-lowest q b r e = rw e

module _ (most : ℕ) (counts : List ℕ) (order : Option (List ℕ)) (b : List ℕ) where
  pub spoken_long : longest < length b → spoken_of most counts order b ≡ record { text = long_line; reasons = [] }
  unfolding spoken_of
  spoken_long h = rw (lt-ltb longest (length b) h)

  pub spoken_asked : length b ≤ longest → spoken_of most counts order b ≡ asked_of most counts order b
  unfolding spoken_of
  spoken_asked h = rw (le-ltb longest (length b) h)
