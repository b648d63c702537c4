use Rattle.pending.proofs.Laws.Opens.{opens_end, opens_access, opens_range, opens_unmet, opens_met}
use Rattle.entries.proofs.Laws.EntryCase.{ordering-below}
use Rattle.entries.specs.Laws.EntryCode.{position_at}
use Rattle.entries.specs.Entry.{ordering_ok}
use Rattle.codec.specs.Laws.Front.{ordering-here}
use Rattle.codec.specs.Decode.{record_of, is_ordering}
use Rattle.codec.specs.Limit.{max_tasks}
use lib.ListN.{length, take, drop}
use Prim.Native.Nat.{ℕ, ◌-◌, ◌≤◌, ◌<◌}
use mathlib.Core.Path.{◌≡◌, sym, ◌∙◌}
use mathlib.Core.Bool.{true, false}
use mathlib.Core.List.{List}
use native.Mathlib.Omega.{arith}
use Rattle.pending.proofs.next.open_at.Goals as goal
use Rattle.pending.proofs.next.open_at.Goals.{Else-not-is_ordering, Else-not-ordering_ok}

-- the bytes from the current place on
abbrev rest : List ℕ → ℕ → ℕ → List ℕ
rest b place end = take (end - place) (drop place b)

-- there is an ordering, with its eight bytes
there : (c : Else-not-is_ordering) → is_ordering (record_of (rest c.args.bytes.now c.loop-place.place c.args.end)) ≡ true
there c = sym c.is_ordering.ensures ∙ c.if-not-is_ordering.false

room : (c : Else-not-is_ordering) → 8 ≤ length (rest c.args.bytes.now c.loop-place.place c.args.end)
room c = (ordering-here _ (there c)).within

-- it is in range, so its task has a count
good : (c : Else-not-ordering_ok) → ordering_ok c.args.limits (position_at (rest c.args.bytes.now c.loop-place.place c.args.end)) ≡ true
good c = rw (c.get16-source.ensures, c.get16-number.ensures) at (sym c.ordering_ok.ensures ∙ c.if-not-ordering_ok.false)

low : (c : Else-not-ordering_ok) → (position_at (rest c.args.bytes.now c.loop-place.place c.args.end)).task < max_tasks
low c = let b = ordering-below _ _ (good c) in omega (arith, b, c.requires.0)

pub returns-then-not-is_ordering : goal.returns-then-not-is_ordering
returns-then-not-is_ordering c =
    c.loop-place.invariant c.access_stands.result
    (opens_access c.args.limits c.args.bytes.now c.args.dones.now c.loop-place.place c.args.end c.loop-place-test.true c.requires.1
    (sym c.is_ordering.ensures ∙ c.if-not-is_ordering.true) c.access_stands.result (c.access_stands.ensures c.loop-place.place))

pub get16-source-requires : goal.get16-source-requires
get16-source-requires c = omega (arith, room (goal.at.get16-source-requires c).Else-not-is_ordering)

pub get16-number-requires : goal.get16-number-requires
get16-number-requires c = omega (arith, room (goal.at.get16-number-requires c).Else-not-is_ordering)

pub returns-then-not-ordering_ok : goal.returns-then-not-ordering_ok
returns-then-not-ordering_ok c =
    c.loop-place.invariant false
    (opens_range c.args.limits c.args.bytes.now c.args.dones.now c.loop-place.place c.args.end c.loop-place-test.true c.requires.1
    (there (goal.at.returns-then-not-ordering_ok c).Else-not-is_ordering)
    (rw (c.get16-source.ensures, c.get16-number.ensures) at (sym c.ordering_ok.ensures ∙ c.if-not-ordering_ok.true)))

pub bounds-dones-source : goal.bounds-dones-source
bounds-dones-source c = omega (arith, c.get16-source.ensures, low (goal.at.bounds-dones-source c).Else-not-ordering_ok)

pub returns-then-dones-source : goal.returns-then-dones-source
returns-then-dones-source c =
    c.loop-place.invariant false
    (opens_unmet c.args.limits c.args.bytes.now c.args.dones.now c.loop-place.place c.args.end c.loop-place-test.true c.requires.1
    (there (goal.at.returns-then-dones-source c).Else-not-is_ordering) (good (goal.at.returns-then-dones-source c).Else-not-ordering_ok)
    (low (goal.at.returns-then-dones-source c).Else-not-ordering_ok) (rw (c.get16-source.ensures, c.get16-number.ensures) at c.if-dones-source.true))

pub loop-place-preserved : goal.loop-place-preserved
loop-place-preserved c =
    rw c.length_of.ensures
    (λ r w. c.loop-place.invariant r
    (opens_met c.args.limits c.args.bytes.now c.args.dones.now c.loop-place.place c.args.end c.loop-place-test.true c.requires.1
    (there (goal.at.loop-place-preserved c).Else-not-is_ordering) (good (goal.at.loop-place-preserved c).Else-not-ordering_ok)
    (low (goal.at.loop-place-preserved c).Else-not-ordering_ok) (rw (c.get16-source.ensures, c.get16-number.ensures) at c.if-dones-source.false) r w))

pub returns : goal.returns
returns c = c.loop-place.invariant false (opens_end _ _ _ _ _ c.loop-place-test.false)
