-- Laws of `Bytes`.
use Rattle.std.specs.Prelude.{◌≡◌, refl, Bool, true, false, cond, List, [], ◌∷◌, ℕ, suc, ◌+◌, ◌≤◌, eqb, ltb, length, take, Some, None}
use Rattle.std.proofs.Common.{◌∙◌, sym, arith, ltb-false, take_all}
use Rattle.std.specs.List.{position_or_len, position}
use Rattle.std.proofs.lemmas.Option.{none-some, same_Some}
use Rattle.std.proofs.lemmas.List.Recursion.{is_position_or_len}
use Rattle.lines.specs.Bytes.{index_after, index_of}

within-cons : (t : Bool) (k n : ℕ) → k ≤ n → index_after t k ≤ suc n
unfolding index_after
within-cons true k n h = omega arith
within-cons false k n h = omega arith

pub index_within : (b : ℕ) (l : List ℕ) → index_of b l ≤ length l
unfolding index_of
index_within b [] = omega arith
index_within b (x ∷ l) = within-cons (eqb x b) (index_of b l) (length l) (index_within b l)

after-cases : (t : Bool) (k : ℕ) → index_after t k ≡ cond t 0 (1 + k)
unfolding index_after
after-cases true k = refl
after-cases false k = omega arith

index_position : (b : ℕ) (l : List ℕ) → index_of b l ≡ position_or_len (λ x. eqb x b) l
unfolding index_of
index_position b l = is_position_or_len (index_of b) (λ x. eqb x b) refl (λ x xs. after-cases (eqb x b) (index_of b xs)) l

-- the byte stands at an index, or nowhere
module _ (b : ℕ) (l : List ℕ) where
  at-position : (t : Bool) (i : ℕ) → ltb (position_or_len (λ x. eqb x b) l) (length l) ≡ t → cond t (Some (position_or_len (λ x. eqb x b) l)) None ≡ Some i → index_of b l ≡ i
  at-position true i p e = index_position b l ∙ same_Some _ _ e
  at-position false i p e = absurd (none-some i e)

  no-position : (t : Bool) → ltb (position_or_len (λ x. eqb x b) l) (length l) ≡ t → cond t (Some (position_or_len (λ x. eqb x b) l)) None ≡ None → length l ≤ index_of b l
  no-position true p e = absurd (none-some _ (sym e))
  no-position false p e = omega (arith, ltb-false _ _ p, index_position b l)

  pub index_at : (i : ℕ) → position (λ x. eqb x b) l ≡ Some i → index_of b l ≡ i
  index_at i e = at-position _ i refl e

  pub index_missing : position (λ x. eqb x b) l ≡ None → take (index_of b l) l ≡ l
  index_missing e = take_all (index_of b l) l (no-position _ refl e)
