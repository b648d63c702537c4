-- Each access answers what the reference memory (document 01: the paper box) says, and the box's memory ends up equal to it.
use Rattle.std.specs.Prelude.{Bool, true, false, cond, List, [], ◌∷◌, ◌≡◌, refl, ℕ, get_or, set}
use Rattle.std.proofs.Common.{ap, ap₂, ◌∙◌}
use Rattle.recorder.specs.AccessOf.{is_write, value_after, memory_after}
use Rattle.recorder.specs.WholeRun.{AccessCall, Call, Box, outcome, called, called_all}
use Rattle.fidelity.specs.Box.{Opening, opened_by, Asked, calls_of, first_box, last_box, fed_by, fed_from, fed, given, kept, reference_memory, reference_values, answers_from, cell_by}
use Rattle.fidelity.proofs.Laws.FirstBox.{opening-is}
use Rattle.fidelity.specs.Laws.OneCall.{taken_turn, turned_away}
use Rattle.fidelity.proofs.Laws.OneCall.{turn}

value_same : (write : Bool) (cell value : ℕ) (memory : List ℕ) → value_after write cell value memory ≡ cond write value (get_or memory cell 0)
value_same true cell value memory = refl
value_same false cell value memory = refl

memory-same : (write : Bool) (cell value : ℕ) (memory : List ℕ) → memory_after write cell value memory ≡ cond write (set memory cell value) memory
memory-same true cell value memory = refl
memory-same false cell value memory = refl

-- one access
module _ (b : Box) (c : AccessCall) where
  answer-given : (outcome b c).answer.value ≡ given b.memory (fed_by b c)
  answer-given = elim (turn b c) [
    | taken_turn k a x e s ↦ rw (a, x) (value_same (is_write c.sort) (cell_by b c) c.value b.memory)
    | turned_away a x s ↦ rw (a, x)
  ]

  memory_kept : (called b c).memory ≡ kept b.memory (fed_by b c)
  memory_kept = elim (turn b c) [
    | taken_turn k a x e s ↦ rw (a, s) (memory-same (is_write c.sort) (cell_by b c) c.value b.memory)
    | turned_away a x s ↦ rw (a, s)
  ]

-- any calls, starting from any box and its memory
calls-answer : (b : Box) (memory : List ℕ) (calls : List Call) → b.memory ≡ memory → answers_from b calls ≡ reference_values memory (fed_from b calls)
unfolding answers_from reference_values fed_from
calls-answer b memory [] e = refl
calls-answer b memory (Call.access c ∷ calls) e = ap₂ (λ (x : ℕ) (l : List ℕ). x ∷ l)
    (answer-given b c ∙ ap (λ (m : List ℕ). given m (fed_by b c)) e)
    (calls-answer (called b c) (kept memory (fed_by b c)) calls (memory_kept b c ∙ ap (λ (m : List ℕ). kept m (fed_by b c)) e))

calls_leave : (b : Box) (memory : List ℕ) (calls : List Call) → b.memory ≡ memory → (called_all b calls).memory ≡ reference_memory memory (fed_from b calls)
unfolding called_all reference_memory fed_from
calls_leave b memory [] e = e
calls_leave b memory (Call.access c ∷ calls) e =
    calls_leave (called b c) (kept memory (fed_by b c)) calls (memory_kept b c ∙ ap (λ (m : List ℕ). kept m (fed_by b c)) e)

module _ (o : Opening) (accepted : (opened_by o).answer.number ≡ 0) (asked : List Asked) where
  starts_first : (first_box o).memory ≡ o.starts
  starts_first = rw (opening-is o accepted)

  pub answers_reference : answers_from (first_box o) (calls_of asked) ≡ reference_values o.starts (fed o asked)
  answers_reference = calls-answer (first_box o) o.starts (calls_of asked) starts_first

  pub memory_reference : (last_box o asked).memory ≡ reference_memory o.starts (fed o asked)
  memory_reference = calls_leave (first_box o) o.starts (calls_of asked) starts_first
