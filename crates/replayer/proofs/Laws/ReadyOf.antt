-- The ready word of a sound run has exactly the ready tasks; the count and the lowest are theirs. The word of an unsound run is 0.
use Rattle.std.specs.Prelude.{◌≡◌, refl, Bool, true, false, List, ℕ, zero, suc, ◌+◌, ◌≤◌, ◌<◌, length}
use Rattle.std.proofs.Common.{add-zero, arith}
use Rattle.codec.specs.Laws.Decide.{passes, fails, split}
use Rattle.pending.specs.declared.Run.{Run}
use Rattle.codec.specs.Number.{unsound}
use Rattle.codec.specs.Limit.{max_tasks}
use Rattle.pending.specs.Sound.{sound_of}
use Rattle.pending.proofs.Laws.Sound.{sound_facts}
use Rattle.replayer.specs.ReadyOf.{is_ready, ready_of}
use Rattle.replayer.specs.Word.{word_of, has_bit, lowest_in}
use Rattle.replayer.proofs.Laws.Word.{word-bit, word_above, word_count, word-lowest}
use Rattle.replayer.specs.Laws.ReadyOf.{LowestIs, ReadySet, nowhere, ready}

-- one more test in front
earlier : (f : ℕ → Bool) (i n : ℕ) → f i ≡ false → ((s : ℕ) → s < n → f (suc i + s) ≡ false) → (s : ℕ) → s < suc n → f (i + s) ≡ false
earlier f i n p g zero h = rw add-zero p
earlier f i n p g (suc s) h = let e : i + suc s ≡ suc i + s = omega arith in rw e (g s (omega arith))

lowest-more : (k : ℕ) (f : ℕ → Bool) (i n t : ℕ) → f i ≡ false → LowestIs k f (suc i) n t → LowestIs (suc k) f i (suc n) (suc t)
lowest-more k f i n t p (ready h q g) = ready (omega arith) (let e : i + suc t ≡ suc i + t = omega arith in rw e q) (earlier f i t p g)
lowest-more k f i n t p (nowhere h g) = nowhere (rw h) (earlier f i n p g)

lowest-is : (k : ℕ) (f : ℕ → Bool) (i n : ℕ) → n ≤ k → LowestIs k f i n (lowest_in k f i n)
unfolding lowest_in
lowest-is k f i zero h = nowhere refl (λ s g. absurd (omega arith))
lowest-is zero f i (suc n) h = absurd (omega arith)
lowest-is (suc k) f i (suc n) h = elim (split (f i)) [
  | passes p ↦ rw p (ready (omega arith) (rw add-zero p) (λ s g. absurd (omega arith)))
  | fails p ↦ rw p (lowest-more k f i n (lowest_in k f (suc i) n) p (lowest-is k f (suc i) n (omega arith)))
]

word_facts : (f : ℕ → Bool) (n t : ℕ) → t < n → has_bit (word_of f 0 n) t ≡ f t
word_facts f n t h = let e : 0 + t ≡ t = omega arith in rw e at (word-bit f 0 n t h)

pub ready-word : (r : Run) (b : List ℕ) → sound_of r (length b) ≡ true → ReadySet r b
unfolding ready_of
ready-word r b s =
    let f = (sound_facts r (length b) s).few_tasks in
    record {
      number = rw s;
      bit = λ t h. rw s (word_facts (is_ready r b) r.tasks t h);
      above = λ t h. rw s (word_above (is_ready r b) 0 r.tasks t h);
      count = rw s (word_count (is_ready r b) r.tasks f);
      lowest = rw (s, word-lowest (is_ready r b) r.tasks f) (lowest-is max_tasks (is_ready r b) 0 r.tasks f);
    }

pub ready-unsound : (r : Run) (b : List ℕ) → sound_of r (length b) ≡ false → ready_of r b ≡ record { number = unsound; word = 0 }
unfolding ready_of
ready-unsound r b s = rw s
