-- Laws of `Sound`.
use Rattle.std.specs.Prelude.{◌≡◌, [], ◌∷◌, Bool, true, ℕ}
use Rattle.history.specs.Entry.{Act, Entry, read, conflicts}
use Rattle.history.specs.History.{History, count, At, here, there}
use Rattle.history.proofs.Laws.History.{at-nil}
use Rattle.history.specs.Closed.{In, Met, Closed}
use Rattle.history.proofs.Laws.Closed.{closed_before}
use Rattle.history.specs.Memory.{reference}
use Rattle.history.specs.Sound.{Sound}
use Rattle.history.specs.Laws.Sound.{Follows}

pub sound_none : (start : ℕ → ℕ) → Sound start []
sound_none start = record {
  points_back = λ a. absurd (at-nil a);
  comes_after = λ a b p c i. absurd (at-nil a);
  reads_last = λ c v a p. absurd (at-nil a);
}

-- a sound history with one more entry is sound if (A), (B) and (C) hold for that entry
pub sound_more : {start : ℕ → ℕ} {e : Entry} {h : History} → Sound start h → Met (λ t. count t h) e.orderings → Follows e h (conflicts e.act)
    → ((c v : ℕ) → e.act ≡ read c v → v ≡ reference start h c) → Sound start (e ∷ h)
sound_more {start} {e} {h} s back after last = record { points_back = back'; comes_after = after'; reads_last = last' }
  where
    back' : {f : Entry} {k : History} → At f k (e ∷ h) → Met (λ t. count t k) f.orderings
    back' here = back
    back' (there a) = s.points_back a

    after' : {later earlier : Entry} {k g : History} {d : ℕ → ℕ} → At later k (e ∷ h) → At earlier g k
        → conflicts later.act earlier.act ≡ true → Closed d (e ∷ h) → In d later k → In d earlier g
    after' here b p c i = after.has c i b p
    after' (there a) b p c i = s.comes_after a b p (closed_before c) i

    last' : {f : Entry} {k : History} (c v : ℕ) → At f k (e ∷ h) → f.act ≡ read c v → v ≡ reference start k c
    last' c v here p = last c v p
    last' c v (there a) p = s.reads_last c v a p
