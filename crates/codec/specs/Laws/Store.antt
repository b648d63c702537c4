-- Laws of `Store`.
use Rattle.std.specs.Prelude.{◌≡◌, refl, List, [], ◌∷◌, ◌++◌, ℕ, suc, ◌+◌, ◌-◌, ◌≤◌, length, set, take, drop}
use Rattle.std.proofs.Common.{sym, ap, ◌∙◌, append_assoc, append-nil, add-zero, add-one, arith, length-drop, drop_of_length-le, take_at, drop-drop}
use Rattle.std.proofs.lemmas.List.Edits.{sets, sets-eq}
use Rattle.std.proofs.Math.Seq.{length-sets, take-length}
use Rattle.codec.specs.Store.{store}

pub store-none : (l : List ℕ) (at : ℕ) → store l at [] ≡ l
unfolding store
store-none l at = refl

pub store-cons : (l : List ℕ) (at x : ℕ) (bs : List ℕ) → store (set l at x) (at + 1) bs ≡ store l at (x ∷ bs)
unfolding store
store-cons l at x bs = rw add-one

pub store_length : (l : List ℕ) (at : ℕ) (bs : List ℕ) → length (store l at bs) ≡ length l
unfolding store
store_length l at bs = length-sets l at bs

-- storing two byte strings one after the other is storing them joined
pub store-append : (l : List ℕ) (at : ℕ) (xs ys : List ℕ) → store (store l at xs) (at + length xs) ys ≡ store l at (xs ++ ys)
unfolding store
store-append l at [] ys = rw add-zero
store-append l at (x ∷ xs) ys =
    ap (λ (n : ℕ). sets (sets (set l at x) (suc at) xs) n ys) (omega arith) ∙ store-append (set l at x) (suc at) xs ys

-- the same, with the first string's length given as a number
pub store-behind : (l : List ℕ) (at n : ℕ) (xs ys : List ℕ) → length xs ≡ n → store (store l at xs) (at + n) ys ≡ store l at (xs ++ ys)
store-behind l at n xs ys h = rw (← h) (store-append l at xs ys)

pub store_split : (l : List ℕ) (at : ℕ) (bs : List ℕ) → at + length bs ≤ length l → store l at bs ≡ take at l ++ bs ++ drop (at + length bs) l
unfolding store
store_split l at bs h = sets-eq bs l at h

-- storing at the front of a list that is long enough
pub store-front : (out bytes : List ℕ) (n : ℕ) → length bytes ≡ n → n ≤ length out → take n (store out 0 bytes) ≡ bytes
store-front out bytes n e h = rw (store_split out 0 bytes (omega arith)) (take_at bytes (drop (0 + length bytes) out) n e)

-- copying bytes to the start of the part that begins at an index
pub store-copied : (l bytes part : List ℕ) (at : ℕ) → at + length bytes ≤ length l
    → part ≡ take (length bytes) bytes ++ drop (length bytes) (take (length l - at) (drop at l))
    → take at l ++ (part ++ drop (length l - at) (drop at l)) ≡ store l at bytes
store-copied l bytes part at h e =
    let n : length (drop at l) ≡ length l - at = length-drop at l in
    let z : drop (length l - at) (drop at l) ≡ [] = drop_of_length-le (drop at l) {i = length l - at} (omega arith) in
    let w : take (length l - at) (drop at l) ≡ drop at l = rw (← n) (take-length (drop at l)) in
    rw (e, z, w, take-length bytes, drop-drop (length bytes) at l, append-nil, ← append_assoc (take at l) bytes (drop (at + length bytes) l))
    (sym (store_split l at bytes h))

-- a part of the same length put in place of the part that begins at an index
pub store-put : (l bytes : List ℕ) (at n : ℕ) → at + length bytes ≤ length l → n ≡ length bytes
    → take at l ++ (bytes ++ drop n (drop at l)) ≡ store l at bytes
store-put l bytes at n h e = rw (e, drop-drop (length bytes) at l, ← append_assoc (take at l) bytes (drop (at + length bytes) l)) (sym (store_split l at bytes h))
