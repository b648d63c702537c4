-- How the code of the pause's lines goes: each line's length by its parts, the front of the counts, and the tasks of a word bit by bit.
use Rattle.std.specs.Prelude.{◌≡◌, refl, true, false, cond, List, [], ◌∷◌, ◌++◌, eqb, length, take, set}
use Rattle.std.proofs.Common.{sym, ◌∙◌, append-nil, zero-add, add-one, length-append, length-set, length-take-le, get_or-take, take-suc-set, eq-eqb, ne_eqb}
use Prim.Native.Nat.{ℕ, suc, ◌+◌, ◌-◌, ◌/◌, ◌%◌, ◌<◌, ◌≤◌}
use Rattle.std.proofs.Math.Nat.{add-zero}
use native.Mathlib.Omega.{arith}
use Rattle.std.proofs.Math.Seq.{append_snoc}
use Rattle.pending.specs.declared.Run.{Run}
use Rattle.pending.specs.Each.{each}
use Rattle.pending.proofs.Laws.Each.{each-length, each_at, each_of}
use Rattle.replayer.specs.Word.{has_bit}
use Rattle.text.specs.Decimal.{field_of}
use Rattle.replay_lines.specs.Lines.{spaced, memory_of}
use Rattle.replay_lines.specs.Block.{turned_line, row_of, chosen, ready_tasks, paused_line, done_line, ready_line, block_of}
use Rattle.replay_lines.specs.Laws.BlockCode.{Picked}

pub turned_length : (task number : ℕ) → length (turned_line task number) ≡ length (field_of task 32) + 8 + length (field_of number 10)
unfolding turned_line
turned_length task number = simp length-append (omega arith)

pub row-length : (words ns : List ℕ) → length (row_of words ns) ≡ length words + length (spaced ns) + 1
unfolding row_of
row-length words ns = simp length-append (omega arith)

pub paused_length : (steps : ℕ) → length (paused_line steps) ≡ 7 + length (field_of steps 10)
unfolding paused_line
paused_length steps = simp length-append (omega arith)

pub block_length : (steps : ℕ) (r : Run) (word : ℕ) (m : List ℕ)
    → length (block_of steps r word m) ≡ length (paused_line steps) + length (done_line r) + length (ready_line word) + length (memory_of m)
unfolding block_of
block_length steps r word m = simp length-append (omega arith)

-- the first k of a list given by a function
pub each-front : (f : ℕ → ℕ) (k n : ℕ) → k ≤ n → take k (each f n) ≡ each f k
each-front f k n h =
    sym (each_of f k (take k (each f n)) 0 (length-take-le k (each f n) (omega (arith, each-length f n))) (λ i b. sym (get_or-take k (each f n) i 0 b ∙ each_at f n i 0 (omega arith))))

pub picked_none : (word : ℕ) (tasks : List ℕ) → length tasks ≡ 16 → Picked word word tasks 0 0
picked_none word tasks h = record { within = omega arith; few = omega arith; long = h; left = λ s. rw zero-add; found = refl }

module _ (word w : ℕ) (tasks : List ℕ) (n t : ℕ) (h : t < 16) (p : Picked word w tasks n t) where
  left-on : (s : ℕ) → has_bit word (t + 1 + s) ≡ has_bit (w / 2) s
  unfolding has_bit
  left-on s = let e : t + 1 + s ≡ t + suc s = omega arith in rw e (p.left (suc s))

  lowest : has_bit word t ≡ eqb (w % 2) 1
  unfolding has_bit
  lowest = rw add-zero at (p.left 0)

  rest : chosen (has_bit word) t (16 - t) ≡ cond (has_bit word t) (t ∷ chosen (has_bit word) (t + 1) (16 - (t + 1))) (chosen (has_bit word) (t + 1) (16 - (t + 1)))
  unfolding chosen
  rest = let e : 16 - t ≡ suc (16 - (t + 1)) = omega arith in rw (e, add-one)

  -- the lowest bit is set
  pub picked_one : w % 2 ≡ 1 → Picked word (w / 2) (set tasks n t) (n + 1) (t + 1)
  picked_one b =
      let front : take (n + 1) (set tasks n t) ≡ take n tasks ++ (t ∷ []) = rw add-one (take-suc-set tasks n t (omega (arith, p.few, p.long))) in
      let ready : has_bit word t ≡ true = lowest ∙ eq-eqb (w % 2) 1 b in
      record {
        within = omega arith;
        few = omega (arith, p.few);
        long = length-set tasks n t ∙ p.long;
        left = left-on;
        found = rw (front, append_snoc) (p.found ∙ rw (rest, ready));
      }

  -- it is not
  pub picked_not : (w % 2 ≡ 1 → ⊥) → Picked word (w / 2) tasks n (t + 1)
  picked_not b =
      let clear : has_bit word t ≡ false = lowest ∙ ne_eqb (w % 2) 1 b in
      record { within = omega arith; few = omega (arith, p.few); long = p.long; left = left-on; found = p.found ∙ rw (rest, clear) }

pub picked_all : (word w : ℕ) (tasks : List ℕ) (n t : ℕ) → 16 ≤ t → Picked word w tasks n t → take n tasks ≡ ready_tasks word
unfolding chosen
picked_all word w tasks n t h p =
    let e : 16 - t ≡ 0 = omega arith in
    sym (p.found ∙ rw (e, append-nil))
