-- The plan as the code chooses it, by cases of the row over the collected values; and it is the table's.
use Rattle.std.specs.Prelude.{Bool, ◌≡◌, refl, ℕ, ◌+◌}
use Rattle.std.proofs.Common.{◌∙◌}
use Rattle.codec.specs.declared.Position.{Position}
use Rattle.tracker.specs.State.{seen_of, took_of, done_at, took_at, holder_of, nowhere, position}
use Rattle.tracker.specs.Row.{row_of}
use Rattle.tracker.specs.Laws.Plan.{planned, plan_for, few_of}
use Rattle.tracker.specs.Orderings.{orderings_of}
use Rattle.tracker.specs.Next.{locality_after, effect_of, number_now}
use Rattle.transitions.specs.declared.advance.Kept.{Kept}
use Rattle.tracker.specs.Laws.Counters.{state_of}
use Rattle.tracker.specs.declared.Locality.{Locality}
use Rattle.tracker.specs.declared.Locality.TheVariants.{WriteExclusive, ReadExclusive, ReadShared}
use Rattle.tracker.specs.declared.Counters.{Counters}
use Rattle.tracker.specs.declared.Plan.{Plan}
use Rattle.tracker.specs.declared.Row.{Row}
use Rattle.tracker.specs.declared.Row.TheVariants.{One, Two, Three, Four, Five, Six, Seven, Eight, Nine, Ten}
use Rattle.tracker.specs.declared.State.{State}

-- the plans, over the entries they use: rows that change only the cell, and rows 5, 6 and 8
abbrev pub plain_plan : ℕ → Locality → Kept → Position → Plan
plain_plan row l e first = record {
  row = row;
  locality = l;
  seen = e.seen;
  took = e.took;
  shares = e.shares;
  last = e.last;
  first = first;
  second = nowhere;
}

abbrev pub share_plan : Kept → Position → Plan
share_plan e first = record {
  row = 5;
  locality = ReadShared (e.shares + 1);
  seen = e.shares + 1;
  took = e.took;
  shares = e.shares + 1;
  last = e.here;
  first = first;
  second = e.last;
}

abbrev pub fence_plan : Locality → Kept → Plan
fence_plan l e = record {
  row = 6;
  locality = l;
  seen = e.shares;
  took = e.took;
  shares = e.shares;
  last = e.last;
  first = e.last;
  second = nowhere;
}

abbrev pub hold_plan : Kept → Position → Plan
hold_plan e first = record {
  row = 8;
  locality = ReadExclusive e.here.task;
  seen = e.seen;
  took = e.here.number;
  shares = e.shares;
  last = e.last;
  first = first;
  second = nowhere;
}

abbrev pub plan_by : Row → Locality → Kept → Position → Position → Plan
plan_by One l e done took = plain_plan 1 l e nowhere
plan_by Two l e done took = plain_plan 2 l e nowhere
plan_by Three l e done took = plain_plan 3 l e nowhere
plan_by Four l e done took = plain_plan 4 (WriteExclusive e.here.task) e nowhere
plan_by Five l e done took = share_plan e took
plan_by Six l e done took = fence_plan l e
plan_by Seven l e done took = plain_plan 7 (WriteExclusive e.here.task) e done
plan_by Eight l e done took = hold_plan e done
plan_by Nine l e done took = plain_plan 9 (WriteExclusive e.here.task) e done
plan_by Ten l e done took = plain_plan 10 (WriteExclusive e.here.task) e nowhere

-- what the code collects about the accessing task
abbrev pub kept_of : State → ℕ → Kept
kept_of s task = record {
  here = position task (number_now s task);
  seen = seen_of s task;
  took = took_of s task;
  shares = s.shares;
  last = s.last;
}

-- the plan over the collected values is the table's
plan_table : (row : Row) (s : State) (task : ℕ) (l : Locality) →
    plan_by row l (kept_of s task) (done_at s (holder_of l)) (took_at s (holder_of l)) ≡ planned row s task l
unfolding planned locality_after effect_of few_of orderings_of
plan_table One s task l = refl
plan_table Two s task l = refl
plan_table Three s task l = refl
plan_table Four s task l = refl
plan_table Five s task l = refl
plan_table Six s task l = refl
plan_table Seven s task l = refl
plan_table Eight s task l = refl
plan_table Nine s task l = refl
plan_table Ten s task l = refl

pub plan_decided : (m : Counters) (l : Locality) (task : ℕ) (write : Bool) (row : Row) (holder : ℕ) (p : Plan) →
    row ≡ row_of l task (seen_of (state_of m) task) write → holder ≡ holder_of l →
    p ≡ plan_by row l (kept_of (state_of m) task) (done_at (state_of m) holder) (took_at (state_of m) holder) → p ≡ plan_for m l task write
unfolding plan_for
plan_decided m l task write row holder p e h q =
    q ∙ rw (e, h) (plan_table (row_of l task (seen_of (state_of m) task) write) (state_of m) task l)
