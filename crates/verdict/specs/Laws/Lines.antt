-- The lines one step at a time, and how long they can be.
use Rattle.std.specs.Prelude.{◌≡◌, refl, List, [], ◌∷◌, ◌++◌, ℕ, suc, ◌+◌, ◌*◌, ◌≤◌, ◌<◌, length, get_or, take, drop}
use Rattle.std.proofs.Common.{sym, ap, ◌∙◌, append_assoc, append-nil, add-one, arith, length-append, take-append-drop}
use Rattle.std.proofs.Math.Seq.{take-suc}
use Rattle.text.specs.Decimal.{field_of}
use Rattle.text.specs.Laws.Decimal.{decimal_short, decimal_few, field-length}
use Rattle.verdict.specs.Text.{steps_of, yes_of, no_of}

steps-append : (xs ys : List ℕ) → steps_of (xs ++ ys) ≡ steps_of xs ++ steps_of ys
unfolding steps_of
steps-append [] ys = refl
steps-append (t ∷ xs) ys = ap (λ (l : List ℕ). field_of t 10 ++ l) (steps-append xs ys) ∙ sym (append_assoc (field_of t 10) (steps_of xs) (steps_of ys))

pub steps-none : steps_of [] ≡ []
unfolding steps_of
steps-none = refl

-- one more step
module _ (order : List ℕ) (i : ℕ) (h : i < length order) where
  pub steps_on : steps_of (take (i + 1) order) ≡ steps_of (take i order) ++ field_of (get_or order i 0) 10
  unfolding steps_of
  steps_on = rw (add-one, take-suc order i 0 h, steps-append (take i order) (get_or order i 0 ∷ []), append-nil)

  pub steps_room : length (steps_of (take i order)) + length (field_of (get_or order i 0) 10) ≤ length (steps_of order)
  steps_room =
      let g = rw (take-append-drop, steps_on) at (steps-append (take (i + 1) order) (drop (i + 1) order)) in
      omega (arith, field-length (get_or order i 0) 10, simp length-append at (ap length g))

-- lengths
pub yes_length : (order : List ℕ) → length (yes_of order) ≡ 4 + length (field_of (length order) 10) + length (steps_of order)
unfolding yes_of
yes_length order = simp length-append (omega arith)

pub no_length : (task offset : ℕ) → length (no_of task offset) ≡ 3 + length (field_of task 32) + length (field_of offset 10)
unfolding no_of
no_length task offset = simp length-append (omega arith)

pub no_few : (task offset : ℕ) → length (no_of task offset) ≤ 45
no_few task offset = omega (arith, no_length task offset, field-length task 32, field-length offset 10, decimal_short task, decimal_short offset)

steps-few : (order : List ℕ) → ((i : ℕ) → i < length order → get_or order i 0 < 100) → length (steps_of order) ≤ 3 * length order
unfolding steps_of
steps-few [] g = omega arith
steps-few (t ∷ order) g = rw length-append (omega (arith, field-length t 10, decimal_few 1 t (g 0 (omega arith)), steps-few order (λ i h. g (suc i) (omega arith))))

pub yes_few : (order : List ℕ) → ((i : ℕ) → i < length order → get_or order i 0 < 100) → length order < 100000 → length (yes_of order) ≤ 10 + 3 * length order
yes_few order g h = omega (arith, yes_length order, field-length (length order) 10, decimal_few 4 (length order) h, steps-few order g)
