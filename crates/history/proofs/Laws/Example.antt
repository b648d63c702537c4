-- Two runs of document 01 ("Runs on the bench") as histories. Run A: it is sound, so the theorem applies, and its replay is computed. The
-- run of four tasks: why row 5 also writes Last.
use Rattle.std.specs.Prelude.{◌≡◌, refl, List, [], ◌∷◌, true, false, ℕ, zero, suc, ◌≤◌}
use Rattle.std.proofs.Math.Option.{some}
use Rattle.std.proofs.Common.{arith}
use Rattle.codec.specs.declared.Position.{Position}
use Rattle.history.specs.Entry.{Act, read, write, Entry}
use Rattle.history.specs.Laws.Entry.{ordering}
use Rattle.history.specs.History.{History, count, At, here, there}
use Rattle.history.proofs.Laws.History.{at-nil}
use Rattle.history.specs.Closed.{In, Closed}
use Rattle.history.proofs.Laws.Closed.{closed_before, closed_none, closed_more}
use Rattle.history.specs.Memory.{reference}
use Rattle.history.specs.Sound.{Sound}
use Rattle.history.proofs.Laws.Sound.{sound_none, sound_more}
use Rattle.history.specs.Replay.{next, is_ready, one_more, step, answer, run, recorded_order}
use Rattle.history.specs.Faithful.{after, Faithful}
use Rattle.history.proofs.Laws.Faithful.{faithful}
use Rattle.history.specs.Laws.Example.{entry, four_tasks, reads0, reads1, run_a, skipping, writes7, writes9, zeros}

run_a_order : recorded_order run_a ≡ 0 ∷ 1 ∷ 0 ∷ 1 ∷ []
unfolding recorded_order
run_a_order = refl

-- at the start task 0 is ready and task 1 is not; after a step of task 0 it is the other way round
run_a_ready-first : (is_ready run_a (after zeros run_a []) 0 ≡ true) × (is_ready run_a (after zeros run_a []) 1 ≡ false)
unfolding run next count
run_a_ready-first = (refl, refl)

run_a_ready-second : (is_ready run_a (after zeros run_a (0 ∷ [])) 0 ≡ false) × (is_ready run_a (after zeros run_a (0 ∷ [])) 1 ≡ true)
unfolding run step next count one_more
run_a_ready-second = (refl, refl)

-- task 0's read answers the 7 that memory holds; steps of tasks that are not ready change nothing; memory ends with 9
run_a_answer : answer run_a (after zeros run_a (0 ∷ 0 ∷ 1 ∷ [])) 0 ≡ some (record { number = 2; act = read 0 7 })
unfolding run step answer next count one_more
run_a_answer = refl

run_a_memory : (after zeros run_a (0 ∷ 1 ∷ 0 ∷ 1 ∷ [])).memory 0 ≡ 9
unfolding run step next count one_more
run_a_memory = refl

-- run A is sound: with each entry, closed counts also have all entries before it
second : {d : ℕ → ℕ} {f : Entry} {k : History} → Closed d (reads1 ∷ writes7 ∷ []) → In d reads1 (writes7 ∷ []) → At f k (writes7 ∷ []) → In d f k
unfolding count
second c i here = omega (arith, c.met here i)
second c i (there a) = absurd (at-nil a)

third : {d : ℕ → ℕ} {f : Entry} {k : History} → Closed d (reads0 ∷ reads1 ∷ writes7 ∷ []) → In d reads0 (reads1 ∷ writes7 ∷ []) → At f k (reads1 ∷ writes7 ∷ []) → In d f k
unfolding count
third c i here = omega (arith, c.met here i)
third c i (there a) = second (closed_before c) (omega (arith, c.met here i)) a

fourth : {d : ℕ → ℕ} {f : Entry} {k : History} → Closed d run_a → In d writes9 (reads0 ∷ reads1 ∷ writes7 ∷ []) → At f k (reads0 ∷ reads1 ∷ writes7 ∷ []) → In d f k
unfolding count
fourth c i here = omega (arith, c.met here i)
fourth c i (there a) = third (closed_before c) (omega (arith, c.met here i)) a

no_read : (x v c w : ℕ) → write x v ≡ read c w → ⊥
no_read x v c w p = let z : ◌≡◌ {A = ℕ} 0 1 = cc in omega arith

reads_seven : (g : History) → reference zeros g 0 ≡ 7 → (c v : ℕ) → read 0 7 ≡ read c v → v ≡ reference zeros g c
reads_seven g seven c v p = cc

run_a_sound : Sound zeros run_a
unfolding count reference
run_a_sound =
    let one : Sound zeros (writes7 ∷ []) = sound_more (sound_none zeros) tt (record { has = λ c i a p. absurd (at-nil a) }) (λ c v p. absurd (no_read 0 7 c v p)) in
    let two : Sound zeros (reads1 ∷ writes7 ∷ []) = sound_more one (omega arith, tt) (record { has = λ c i a p. second c i a }) (reads_seven (writes7 ∷ []) refl) in
    let three : Sound zeros (reads0 ∷ reads1 ∷ writes7 ∷ []) = sound_more two (omega arith, tt) (record { has = λ c i a p. third c i a }) (reads_seven (reads1 ∷ writes7 ∷ []) refl) in
    sound_more three (omega arith, tt) (record { has = λ c i a p. fourth c i a }) (λ c v p. absurd (no_read 0 9 c v p))

run_a_faithful : Faithful zeros run_a
run_a_faithful = faithful run_a_sound

-- With Last, closed counts that have task 3's second access also have task 2's, which made share 1.
with_last : (d : ℕ → ℕ) → Closed d (four_tasks (ordering 1 2 ∷ ordering 2 1 ∷ [])) → 2 ≤ d 3 → 1 ≤ d 2
unfolding count
with_last d c two = omega (arith, c.met (there here) (omega arith))

without-last : Closed skipping (four_tasks (ordering 1 2 ∷ [])) × (2 ≤ skipping 3) × (1 ≤ skipping 2 → ⊥)
without-last = (
  closed_more (closed_more (closed_more (closed_more (closed_more (closed_none skipping)
      (λ i. tt)) (λ i. (omega arith, tt))) (λ i. tt)) (λ i. (omega arith, tt))) (λ i. tt),
  omega arith,
  λ p. omega arith,
)
