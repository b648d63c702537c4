use native.Mathlib.Omega.{arith}
use Prim.Native.Nat.{ℕ}
use Rattle.entries.specs.declared.Limits.{Limits}
use Rattle.pending.specs.FirstUnmet.{Ahead}
use Rattle.pending.specs.Laws.FirstUnmet.{Passing}
use Rattle.pending.proofs.Laws.FirstUnmet.{ahead_turn, stops_before, stops_behind}
use Rattle.entries.specs.OrderingAt.{ordering_at}
use Rattle.pending.proofs.next.first_unmet.Goals as goal
use Rattle.pending.proofs.next.first_unmet.Goals.{In-loop-place, Start}

-- the ordering at this place, for any group and for the known one
turn : (c : In-loop-place) →
    let a = c.args in
    (m : Limits) (start end : ℕ) → Ahead m a.bytes.now a.dones.now start end a.from a.at
    → Passing m a.bytes.now a.dones.now start end c.loop-place.place a.at (ordering_at a.bytes.now c.loop-place.place)
turn c m start end w = ahead_turn _ _ _ _ _ _ _ (c.loop-place.invariant m start end w) c.loop-place-test.true

passing : (c : In-loop-place) →
    let s = (goal.at.In-loop-place c).Start in
    Passing s.requires.limits s.args.bytes.now s.args.dones.now s.requires.from s.requires.end c.loop-place.place s.args.at (ordering_at s.args.bytes.now c.loop-place.place)
passing c = let p = c.requires in turn c p.limits p.from p.end p.ahead

pub source_at-source-requires : goal.source_at-source-requires
source_at-source-requires c = (passing (goal.at.source_at-source-requires c).In-loop-place).room

pub number_at-number-requires : goal.number_at-number-requires
number_at-number-requires c = (passing (goal.at.number_at-number-requires c).In-loop-place).room

pub bounds-dones-source : goal.bounds-dones-source
bounds-dones-source c = omega (arith, (passing (goal.at.bounds-dones-source c).In-loop-place).below, c.source_at-source.ensures)

pub returns-then-dones-source : goal.returns-then-dones-source
returns-then-dones-source c = λ m start end w. record {
  holds = stops_before _ _ _ _ _ _ _ (c.loop-place.invariant m start end w) c.loop-place-test.true ((turn (goal.at.returns-then-dones-source c).In-loop-place m start end w).here (rw (c.source_at-source.ensures, c.number_at-number.ensures) at c.if-dones-source.true));
  ahead = c.loop-place.invariant m start end w;
  held = λ h. (turn (goal.at.returns-then-dones-source c).In-loop-place m start end w).unmet (rw (c.source_at-source.ensures, c.number_at-number.ensures) at c.if-dones-source.true);
}

pub overflow_add-place : goal.overflow_add-place
overflow_add-place c = omega (arith, (passing (goal.at.overflow_add-place c).In-loop-place).room, c.length_of.ensures)

pub loop-place-preserved : goal.loop-place-preserved
loop-place-preserved c = rw c.length_of.ensures (λ m start end w. (turn (goal.at.loop-place-preserved c).In-loop-place m start end w).met (rw (c.source_at-source.ensures, c.number_at-number.ensures) at c.if-dones-source.false))

pub returns : goal.returns
returns c = λ m start end w. record { ahead = c.loop-place.invariant m start end w; held = λ h. absurd (omega (arith, h, c.loop-place-test.false)); holds = stops_behind _ _ _ _ _ _ _ (c.loop-place.invariant m start end w) c.loop-place-test.false }
