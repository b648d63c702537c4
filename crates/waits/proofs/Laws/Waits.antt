-- The length of the text, and how the code makes a task's line.
use Rattle.std.specs.Prelude.{◌≡◌, refl, Bool, true, false, cond, List, [], ◌++◌, ℕ, zero, suc, ◌+◌, ◌*◌, ◌≤◌, ◌<◌, length}
use Rattle.std.proofs.Common.{add-one, arith, length-append}
use borrow.Author.Tests.{lt-ltb, le-ltb}
use Rattle.entries.specs.declared.Limits.{Limits}
use Rattle.entries.specs.OrderingAt.{ordering_at}
use Rattle.pending.specs.declared.Run.{Run}
use Rattle.pending.specs.declared.TaskRun.{TaskRun}
use Rattle.pending.specs.FirstUnmet.{unmet_at, Holds}
use Rattle.pending.specs.Laws.Look.{OneTask}
use Rattle.pending.proofs.Laws.Look.{look_unmet}
use Rattle.replayer.specs.ReadyOf.{has_left}
use Rattle.pending.specs.Unmet.{Unmet, none, first, unmet_next}
use Rattle.text.specs.Decimal.{field_of}
use Rattle.text.specs.Laws.Decimal.{decimal_short, field-length}
use Rattle.waits.specs.Waits.{wait_line, wait_of, waits_in, line_most}

pub field-short : (n b : ℕ) → length (field_of n b) ≤ 21
field-short n b = omega (arith, field-length n b, decimal_short n)

line-short : (t : ℕ) (u : Unmet) → length (wait_line t u) ≤ line_most
unfolding wait_line
line-short t none = omega arith
line-short t (first at p) = simp length-append (omega (arith, decimal_short t, decimal_short p.number, decimal_short p.task, decimal_short at))

wait_short : (b : List ℕ) (r : Run) (t : ℕ) → length (wait_of b r t) ≤ line_most
unfolding wait_of
wait_short b r t = go (has_left r t)
  where
    go : (x : Bool) → length (cond x (wait_line t (unmet_next r b t)) []) ≤ line_most
    go true = line-short t (unmet_next r b t)
    go false = omega arith

pub waits_short : (b : List ℕ) (r : Run) (n : ℕ) → length (waits_in b r n) ≤ line_most * n
unfolding waits_in
waits_short b r zero = omega arith
waits_short b r (suc n) = rw length-append (omega (arith, waits_short b r n, wait_short b r n))

-- one more task
pub waits_none : (b : List ℕ) (r : Run) → waits_in b r 0 ≡ []
unfolding waits_in
waits_none b r = refl

pub waits_on : (b : List ℕ) (r : Run) (t : ℕ) → waits_in b r (t + 1) ≡ waits_in b r t ++ wait_of b r t
unfolding waits_in
waits_on b r t = rw add-one

-- no task has accesses left
pub waits_nothing : (b : List ℕ) (r : Run) (n : ℕ) → ((t : ℕ) → t < n → has_left r t ≡ false) → waits_in b r n ≡ []
unfolding waits_in wait_of
waits_nothing b r zero g = refl
waits_nothing b r (suc n) g = rw (g n (omega arith), waits_nothing b r n (λ t h. g t (omega arith)))

-- a task whose record, T, N and accesses done are what the code has
module _ (b : List ℕ) (r : Run) (t : ℕ) (x : TaskRun) (m : Limits) (dones : List ℕ) (w : OneTask r t x m dones) where
  pub wait_done : x.count ≤ x.done → wait_of b r t ≡ []
  unfolding wait_of
  wait_done h = rw (← w.task, le-ltb _ _ h)

  module _ (l : x.done < x.count) (place at : ℕ) (k : Holds m b dones x.place x.end (unmet_at b place at)) where
    wait_left : wait_of b r t ≡ wait_line t (unmet_at b place at)
    unfolding wait_of
    wait_left = rw (← w.task, lt-ltb _ _ l, look_unmet r b t x m dones w _ k)

    pub wait_open : at ≤ place → wait_of b r t ≡ []
    unfolding unmet_at wait_line
    wait_open h = rw (wait_left, le-ltb place at h)

    pub wait_held : place < at → wait_of b r t ≡ wait_line t (first place (ordering_at b place))
    unfolding unmet_at
    wait_held h = rw (wait_left, lt-ltb place at h)
