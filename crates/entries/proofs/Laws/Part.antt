-- Laws of `Part`.
use Rattle.std.specs.Prelude.{◌≡◌, refl, List, [], ◌∷◌, ℕ, zero, suc, ◌+◌, ◌-◌, ◌≤◌, min, leb, length, take, drop}
use Rattle.std.proofs.Common.{ap, ◌∙◌, sym, arith, length-take, length-drop, drop-drop, take_all, leb-true, leb-false}
use Rattle.std.proofs.Math.Seq.{take-nil}
use Rattle.codec.specs.Laws.Decide.{passes, fails, split}
use Rattle.entries.specs.Part.{part}

drop-take : (n k : ℕ) (l : List ℕ) → drop n (take k l) ≡ take (k - n) (drop n l)
drop-take zero k l = let e : k - 0 ≡ k = omega arith in rw e
drop-take (suc n) zero l = let e : 0 - suc n ≡ 0 = omega arith in rw e
drop-take (suc n) (suc k) [] = take_none (suc k - suc n)
  where
    take_none : (m : ℕ) → ◌≡◌ {A = List ℕ} [] (take m [])
    take_none zero = refl
    take_none (suc m) = refl
drop-take (suc n) (suc k) (x ∷ l) = let e : suc k - suc n ≡ k - n = omega arith in rw e (drop-take n k l)

pub part_length : (from to : ℕ) (b : List ℕ) → to ≤ length b → length (part from to b) ≡ to - from
unfolding part
part_length from to b h = rw (length-take, length-drop) (omega arith)

pub part-drop : (n from to : ℕ) (b : List ℕ) → drop n (part from to b) ≡ part (from + n) to b
unfolding part
part-drop n from to b =
    let e : to - from - n ≡ to - (from + n) = omega arith in
    drop-take n (to - from) (drop from b) ∙ rw (e, drop-drop)

take_min : (k : ℕ) (l : List ℕ) → take (min k (length l)) l ≡ take k l
take_min k [] = take-nil (min k 0) ∙ sym (take-nil k)
take_min zero (x ∷ l) = let e : min 0 (suc (length l)) ≡ 0 = omega arith in rw e
take_min (suc k) (x ∷ l) = let e : min (suc k) (suc (length l)) ≡ suc (min k (length l)) = omega arith in rw e (ap (λ (t : List ℕ). x ∷ t) (take_min k l))

-- a part that ends past the list's end is the part up to the list's end
pub part-min : (from to : ℕ) (b : List ℕ) → part from (min to (length b)) b ≡ part from to b
unfolding part
part-min from to b =
    let e : min to (length b) - from ≡ min (to - from) (length b - from) = omega arith in
    rw (e, ← length-drop from b) (take_min (to - from) (drop from b))

pub part-all : (b : List ℕ) → part 0 (length b) b ≡ b
unfolding part
part-all b = let e : length b - 0 ≡ length b = omega arith in rw e (take_all (length b) b (omega arith))

pub part_none : (from to : ℕ) (b : List ℕ) → to ≤ from → part from to b ≡ []
unfolding part
part_none from to b h = let e : to - from ≡ 0 = omega arith in rw e

-- the same, with a start that is not past the end either
pub part_clipped : (from to : ℕ) (b : List ℕ) → part (min from (min to (length b))) (min to (length b)) b ≡ part from to b
part_clipped from to b =
    let end = min to (length b) in
    elim (split (leb from end)) [
      | passes p ↦ let e : min from end ≡ from = omega (arith, leb-true from end p) in rw e (part-min from to b)
      | fails p ↦
          let h = leb-false from end p in
          part_none (min from end) end b (omega (arith, h)) ∙ sym (part_none from end b (omega (arith, h))) ∙ part-min from to b
    ]

-- everything from an index on
pub rest_all : (at : ℕ) (b : List ℕ) → take (length b - at) (drop at b) ≡ drop at b
rest_all at b = take_all (length b - at) (drop at b) (rw length-drop (omega arith))

-- some bytes at a distance from an index, as a part of the whole
pub rest_part : (skip size at : ℕ) (b : List ℕ) → part (at + skip) (at + skip + size) b ≡ take size (drop skip (drop at b))
unfolding part
rest_part skip size at b = let e : at + skip + size - (at + skip) ≡ size = omega arith in rw (e, drop-drop)
