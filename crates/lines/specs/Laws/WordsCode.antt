-- A line's words as the code finds them.
use Rattle.std.specs.Prelude.{◌≡◌, refl, Bool, true, false, cond, not, List, [], ◌∷◌, ◌++◌, ℕ, suc, ◌+◌, ◌<◌, ◌≤◌, ltb, length, take, drop, Option}
use Rattle.std.proofs.Common.{ap, ◌∙◌, arith, ltb-false, length-take-le}
use Rattle.std.specs.List.{position_or_len, position}
use Rattle.std.specs.Option.{unwrap_or}
use Rattle.std.proofs.lemmas.List.{take-append-drop}
use Rattle.std.proofs.lemmas.List.Recursion.{is_position_or_len}
use Rattle.codec.specs.Laws.Decide.{passes, fails, split}
use Rattle.lines.specs.Words.{is_blank, front, pieces_of, filled_of, words_in}

-- a byte that continues a run of blanks, or of other bytes
abbrev pub in_run : Bool → ℕ → Bool
in_run blanks b = cond blanks (is_blank b) (not (is_blank b))

-- the length of the run at the front of a list
unfoldable pub run_of : Bool → List ℕ → ℕ
run_of blanks [] = 0
run_of blanks (b ∷ bs) = cond (in_run blanks b) (suc (run_of blanks bs)) 0

pub run-within : (t : Bool) (l : List ℕ) → run_of t l ≤ length l
unfolding run_of
run-within t [] = omega arith
run-within t (b ∷ l) = elim (split (in_run t b)) [
  | passes p ↦ rw p (omega (arith, run-within t l))
  | fails p ↦ rw p (omega arith)
]

-- a run ends at the first byte that does not continue it
pub run_position : (t : Bool) (l : List ℕ) → run_of t l ≡ position_or_len (λ b. not (in_run t b)) l
unfolding run_of
run_position t l = is_position_or_len (run_of t) (λ b. not (in_run t b)) refl (λ x xs. turned (in_run t x) (run_of t xs)) l
  where
    turned : (b : Bool) (n : ℕ) → cond b (suc n) 0 ≡ cond (not b) 0 (1 + n)
    turned true n = omega arith
    turned false n = refl

pub run_found : (t : Bool) (l : List ℕ) (r : Option ℕ) → r ≡ position (λ b. not (in_run t b)) l → unwrap_or r (length l) ≡ run_of t l
run_found t l r e = rw (e, run_position t l) (elim (split (ltb (position_or_len (λ b. not (in_run t b)) l) (length l))) [
  | passes p ↦ rw p
  | fails p ↦ rw p (omega (arith, ltb-false _ _ p, run-within t l, run_position t l))
])

-- blanks before words
skip : (l : List ℕ) → words_in l ≡ words_in (drop (run_of true l) l)
unfolding run_of words_in pieces_of filled_of
skip [] = refl
skip (b ∷ bs) = elim (split (is_blank b)) [
  | passes p ↦ rw p (skip bs)
  | fails p ↦ rw (p, p)
]

-- the pieces after the first, each after a blank
behind : List ℕ → List (List ℕ)
behind [] = []
behind (b ∷ bs) = pieces_of bs

first_piece : (l : List ℕ) → pieces_of l ≡ take (run_of false l) l ∷ behind (drop (run_of false l) l)
unfolding run_of pieces_of behind front
first_piece [] = refl
first_piece (b ∷ bs) = elim (split (is_blank b)) [
  | passes p ↦ rw p
  | fails p ↦ rw (p, first_piece bs)
]

behind-words : (l : List ℕ) → filled_of (behind (drop (run_of false l) l)) ≡ words_in (drop (run_of false l) l)
unfolding run_of words_in pieces_of filled_of behind
behind-words [] = refl
behind-words (b ∷ bs) = elim (split (is_blank b)) [
  | passes p ↦ rw (p, p)
  | fails p ↦ rw p (behind-words bs)
]

-- a run of other bytes at the front is a word
filled-cons : (w : List ℕ) (ws : List (List ℕ)) → 0 < length w → filled_of (w ∷ ws) ≡ w ∷ filled_of ws
unfolding filled_of
filled-cons [] ws h = absurd (let z : ⊥ = omega arith in z)
filled-cons (b ∷ w) ws h = refl

word : (l : List ℕ) → 0 < run_of false l → words_in l ≡ take (run_of false l) l ∷ words_in (drop (run_of false l) l)
unfolding words_in
word l h =
    ap filled_of (first_piece l)
    ∙ filled-cons (take (run_of false l) l) (behind (drop (run_of false l) l)) (omega (arith, length-take-le (run_of false l) l (run-within false l)))
    ∙ ap (λ (ws : List (List ℕ)). take (run_of false l) l ∷ ws) (behind-words l)

-- if no other bytes follow the blanks, the line ends there
ended : (l : List ℕ) → run_of false (drop (run_of true l) l) ≡ 0 → drop (run_of true l) l ≡ []
unfolding run_of
ended [] h = refl
ended (b ∷ bs) h = elim (split (is_blank b)) [
  | passes p ↦ rw p (ended bs (rw p at h))
  | fails p ↦ absurd (let z : suc (run_of false bs) ≡ 0 = simp p at h in omega arith)
]

-- the line behind its blanks: a word and what follows it, or nothing
module _ (l filled : List ℕ) (e : filled ≡ drop (run_of true l) l) where
  pub word-none : run_of false filled ≡ 0 → words_in l ≡ []
  unfolding words_in pieces_of filled_of
  word-none h = skip l ∙ ap words_in (ended l (rw e at h))

  pub word-found : 0 < run_of false filled → words_in l ≡ take (run_of false filled) filled ∷ words_in (drop (run_of false filled) filled)
  word-found h = skip l ∙ rw (← e) (word filled h)

-- the line is the blanks, the word and what follows it
pub word-parts : (l blanks filled bytes rest : List ℕ) (m n : ℕ) → blanks ≡ take m l → filled ≡ drop m l → bytes ≡ take n filled → rest ≡ drop n filled
    → l ≡ blanks ++ (bytes ++ rest)
word-parts l blanks filled bytes rest m n a f w r = rw (a, w, r, take-append-drop, f, take-append-drop)
