-- Covering: why one ordering can stand for many accesses (document 01, "Transition table": an ordering (S, s) before an access means that
-- S must have done at least s accesses). A position covers the entries that closed counts must contain once they have reached it. An
-- entry ordered after the position comes after everything it covers.
use Rattle.std.specs.Prelude.{◌≡◌, [], ◌∷◌, Bool, true, false, ℕ, ◌≤◌, ◌<◌}
use Rattle.std.proofs.Common.{arith}
use Rattle.codec.specs.declared.Position.{Position}
use Rattle.codec.specs.Laws.Decide.{never}
use Rattle.history.specs.Entry.{Act, Entry}
use Rattle.history.specs.History.{History, count, At, here, there}
use Rattle.history.proofs.Laws.History.{at-nil}
use Rattle.history.specs.Closed.{In, Closed}
use Rattle.history.proofs.Laws.Closed.{closed_before}
use Rattle.history.specs.Laws.Sound.{Follows}
use Rattle.tracker.specs.Laws.Covers.{Awaits, Covers}

pub covers_none : (p : Position) (test : Act → Bool) → Covers [] p test
covers_none p test = record { has = λ c n a t. absurd (at-nil a) }

-- covering is kept as the history grows: by an entry that does not pass the test, and for a larger number of the same task
pub covers_more : {h : History} {p : Position} {test : Act → Bool} (e : Entry) (q : Position) → test e.act ≡ false → q.task ≡ p.task → p.number ≤ q.number
    → Covers h p test → Covers (e ∷ h) q test
covers_more {h} {p} {test} e q skip same low c = record { has = has }
  where
    has : {d : ℕ → ℕ} {f : Entry} {k : History} → Closed d (e ∷ h) → q.number ≤ d q.task → At f k (e ∷ h) → test f.act ≡ true → In d f k
    has closed n here t = absurd (never (test e.act) t skip)
    has {d} closed n (there a) t = let m : q.number ≤ d p.task = rw same at n in c.has (closed_before closed) (omega arith) a t

-- the newest entry comes after everything covered by a position it is ordered after
pub follows_covered : {e : Entry} {h : History} {p : Position} {test : Act → Bool} → Awaits e h p → Covers h p test → Follows e h test
follows_covered w c = record { has = λ closed i a t. c.has (closed_before closed) (w.reached closed i) a t }

-- and its own position then covers the same, and itself
pub covers_own : {e : Entry} {h : History} {test : Act → Bool} (q : Position) → q.task ≡ e.task → count e.task h < q.number
    → Follows e h test → Covers (e ∷ h) q test
covers_own {e} {h} {test} q own low f = record { has = has }
  where
    has : {d : ℕ → ℕ} {g : Entry} {k : History} → Closed d (e ∷ h) → q.number ≤ d q.task → At g k (e ∷ h) → test g.act ≡ true → In d g k
    has {d} closed n here t = let m : q.number ≤ d e.task = rw own at n in omega arith
    has {d} closed n (there a) t =
        let m : q.number ≤ d e.task = rw own at n in
        let i : In d e h = omega arith in
        f.has closed i a t

-- an entry comes after everything its own task has done before
pub awaits_own : (e : Entry) (h : History) (p : Position) → p.task ≡ e.task → p.number ≤ count e.task h → Awaits e h p
awaits_own e h p own low = record { reached = λ {d} closed i. rw own (omega arith) }

-- an entry that comes after more acts comes after fewer
pub follows_fewer : {e : Entry} {h : History} {more fewer : Act → Bool} → ((a : Act) → fewer a ≡ true → more a ≡ true) → Follows e h more → Follows e h fewer
follows_fewer within f = record { has = λ {d} {f = g} {k} closed i a t. f.has closed i a (within g.act t) }
