-- The recording of a text that nothing stopped is that of a whole run: no section is refused.
use Rattle.std.specs.Prelude.{◌≡◌, eqb, ltb, replicate}
use Rattle.std.proofs.Math.Path.{refl, ap}
use Rattle.std.proofs.Common.{sym}
use mathlib.Core.List.{List, [], ◌++◌}
use Prim.Native.Nat.{ℕ, zero, suc, ◌+◌, ◌*◌, ◌-◌, ◌≤◌}
use Rattle.std.proofs.Math.Numerals.{add-one}
use native.Mathlib.Omega.{arith}
use borrow.Author.Tests.{eq-eqb, eqb-true, eqb-false}
use Rattle.std.proofs.Math.ListN.{length, take, length-append}
use Rattle.std.proofs.lemmas.List.{length-replicate}
use Rattle.codec.specs.Laws.Decide.{passes, fails, split}
use Rattle.codec.specs.Laws.Encode.{section-length}
use Rattle.opening.specs.Laws.OpenCode.{open_head}
use Rattle.recorder.specs.WholeRun.{Box, called_all, packed as packed_whole}
use Rattle.fidelity.specs.Box.{Opening, opened_by, Asked, first_box, last_box, recorded_from}
use Rattle.fidelity.proofs.Laws.BoxMatches.{sections_accepted}
use Rattle.fidelity.proofs.Laws.FirstBox.{opening_facts, opening-is}
use Rattle.fidelity.proofs.Laws.Packed.{section_wrote}
use Rattle.fidelity.proofs.Laws.Theorem.{acceptance}
use Rattle.codec.specs.Laws.Store.{store-front}
use Rattle.lines.specs.Lines.{Line}
use Rattle.logs.specs.Packed.{packed}
use Rattle.script.specs.RecordOf.{longest_head, begun, finished, with_opening}
use Rattle.logs.specs.Session.{Session, most, fed_all}
use Rattle.programs.specs.Laws.Numbered.{Numbered}
use Rattle.programs.specs.WholeRecording.{outs_of, WholeRecording}
use Rattle.programs.specs.Laws.Ran.{sum_logs, sum-none, Ran, ran_all}

sum_suc : (logs : ℕ → List ℕ) (t : ℕ) → sum_logs logs (suc t) ≡ sum_logs logs t + length (logs t)
unfolding sum_logs
sum_suc logs t = refl

sum_zero : (logs : ℕ → List ℕ) → sum_logs logs 0 ≡ 0
unfolding sum_logs
sum_zero logs = refl

sum_rises : (logs : ℕ → List ℕ) (t d : ℕ) → sum_logs logs t ≤ sum_logs logs (t + d)
unfolding sum_logs
sum_rises logs t zero = let e : t + 0 ≡ t = omega arith in rw e (omega arith)
sum_rises logs t (suc d) = let e : t + suc d ≡ suc (t + d) = omega arith in rw e (omega (arith, sum_rises logs t d))

sum-next : (logs : ℕ → List ℕ) (t k : ℕ) → sum_logs logs t + length (logs t) ≤ sum_logs logs (t + suc k)
unfolding sum_logs
sum-next logs t k = let e : t + suc k ≡ suc t + k = omega arith in rw e (sum_rises logs (suc t) k)

module _ (o : Opening) (z : (opened_by o).answer.number ≡ 0) (asked : List Asked) (head : ℕ) (room : head + 12 * o.tasks + sum_logs (last_box o asked).logs o.tasks ≤ most) where
  packed_all : (t k at : ℕ) → t + k ≡ o.tasks → at ≡ head + 12 * t + sum_logs (last_box o asked).logs t
      → packed (last_box o asked).state (last_box o asked).logs at t k ≡ packed_whole (last_box o asked).state (last_box o asked).logs (outs_of (last_box o asked)) t k
  unfolding packed packed_whole
  packed_all t zero at h e = refl
  packed_all t (suc k) at h e =
      let b = last_box o asked in
      let n : sum_logs b.logs t + length (b.logs t) ≤ sum_logs b.logs o.tasks = rw h at (sum-next b.logs t k) in
      let i = sections_accepted o z asked t (omega arith) (replicate (most - at) 0) (rw (length-replicate {A = ℕ} (most - at) 0) (omega (arith, n, room, e))) in
      let j = sections_accepted o z asked t (omega arith) (outs_of b t) (rw (length-replicate {A = ℕ} (12 + length (b.logs t)) 0) (omega arith)) in
      let x = section_wrote b.state t (b.logs t) (replicate (most - at) 0) i in
      let y = section_wrote b.state t (b.logs t) (outs_of b t) j in
      let g = packed_all (suc t) k (at + (12 + length (b.logs t))) (omega arith) (omega (arith, e, sum_suc b.logs t)) in
      rw (x.1, y.1, x.0, add-one t, g)

  -- the bytes of the logs, and a section record for each
  packed-size : (t k : ℕ) → t + k ≡ o.tasks → length (packed_whole (last_box o asked).state (last_box o asked).logs (outs_of (last_box o asked)) t k) + sum_logs (last_box o asked).logs t
      ≡ 12 * k + sum_logs (last_box o asked).logs o.tasks
  unfolding packed_whole
  packed-size t zero h = let e : t ≡ o.tasks = omega arith in rw e (omega arith)
  packed-size t (suc k) h =
      let b = last_box o asked in
      let j = sections_accepted o z asked t (omega arith) (outs_of b t) (rw (length-replicate {A = ℕ} (12 + length (b.logs t)) 0) (omega arith)) in
      let y = section_wrote b.state t (b.logs t) (outs_of b t) j in
      rw (length-append, y.1, length-append, section-length) (omega (arith, packed-size (suc t) k (omega arith), sum_suc b.logs t))

box-none : (b : Box) → b ≡ called_all b []
unfolding called_all
box-none b = refl

module _ (o : Opening) (z : (opened_by o).answer.number ≡ 0) where
  -- an opening writes as many bytes as its answer says
  head-size : length (take (opened_by o).answer.written (opened_by o).out) ≡ (opened_by o).answer.written
  head-size =
      let f = opening_facts o z in
      let e = open_head o.starts f in
      rw (opening-is o z, store-front o.out _ _ e f.room, e)

  head-written : (opened_by o).answer.written ≤ length o.out
  head-written = rw (opening-is o z) (opening_facts o z).room

module _ (o : Opening) (z : (opened_by o).answer.number ≡ 0) (room : length o.out ≡ longest_head) (line : ℕ) (ls : List Line) where
  abbrev written : ℕ
  written = (opened_by o).answer.written

  abbrev first : Session
  first = begun (opened_by o).answer.state (opened_by o).memory written o.tasks

  first_ran : Ran o z (written + 12 * o.tasks) [] first
  unfolding recorded_from
  first_ran = record {
    asked = [];
    box = box-none (first_box o);
    total = omega (arith, sum-none o.tasks);
    fits = omega (arith, (opening_facts o z).few_tasks, head-written o z, room);
    asks = λ _. refl;
    counted = λ _. refl;
  }

  whole_made : Numbered ls → (fed_all first ls).line ≡ 0
      → WholeRecording (with_opening o.tasks line (opened_by o) ls).bytes (with_opening o.tasks line (opened_by o) ls).memory (ltb 0 o.fields) ls
  unfolding with_opening finished
  whole_made k h =
      let r = ran_all o z (written + 12 * o.tasks) [] first ls k first_ran in
      let b = last_box o r.asked in
      let q : sum_logs b.logs o.tasks ≡ sum_logs (fed_all first ls).box.logs o.tasks = ap (λ (x : Box). sum_logs x.logs o.tasks) (sym r.box) in
      let n = head-size o z in
      let g = packed_all o z r.asked written (omega (arith, r.total, r.fits, q)) 0 o.tasks written (omega arith) (omega (arith, sum_zero b.logs)) in
      rw (eq-eqb _ _ z, eq-eqb _ _ h, r.box, n) (record {
        opening = o;
        asked = r.asked;
        is = ap (λ (x : List ℕ). take written (opened_by o).out ++ x) g;
        asks = r.asks h;
        counted = r.counted h;
        left = refl;
        short = rw length-append (omega (arith, n, ap length g, packed-size o z r.asked written (omega (arith, r.total, r.fits, q)) 0 o.tasks (omega arith), sum_zero b.logs, r.total, r.fits, q));
        accepted = λ lent each. acceptance o r.asked (outs_of b) lent z (λ t l. rw (length-replicate {A = ℕ} (12 + length (b.logs t)) 0) (omega arith)) each;
      })

  pub whole-recording : Numbered ls → (with_opening o.tasks line (opened_by o) ls).line ≡ 0
      → WholeRecording (with_opening o.tasks line (opened_by o) ls).bytes (with_opening o.tasks line (opened_by o) ls).memory (ltb 0 o.fields) ls
  unfolding with_opening finished
  whole-recording k e = elim (split (eqb (fed_all first ls).line 0)) [
    | passes q ↦ whole_made k (eqb-true _ _ q)
    | fails q ↦ absurd (eqb-false _ _ q (rw (eq-eqb _ _ z, q) at e))
  ]
