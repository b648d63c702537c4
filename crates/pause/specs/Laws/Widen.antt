-- A list put into a buffer, element by element or whole, is at its front.
use Rattle.std.specs.Prelude.{◌≡◌, List, [], ◌∷◌, ℕ, ◌+◌, ◌≤◌, ◌<◌, length, get_or, take, set}
use Rattle.std.proofs.Common.{sym, ap, ◌∙◌, add-one, arith, take-suc, length-take-le}
use Rattle.codec.specs.Laws.Store.{store-none, store-cons, store-append, store_length, store-front}
use Rattle.codec.specs.Store.{store}

pub widen_start : (out steps : List ℕ) → store out 0 (take 0 steps) ≡ out
widen_start out steps = store-none out 0

pub widen_on : (out now steps : List ℕ) (i : ℕ) → now ≡ store out 0 (take i steps) → i < length steps → length steps ≤ length out
    → set now i (get_or steps i 0) ≡ store out 0 (take (i + 1) steps)
widen_on out now steps i e h k =
    let l : 0 + length (take i steps) ≡ i = omega (arith, length-take-le i steps (omega arith)) in
    rw (e, add-one, take-suc steps i 0 h, ← store-append out 0 (take i steps) (get_or steps i 0 ∷ []), l)
    (sym (store-none (set (store out 0 (take i steps)) i (get_or steps i 0)) (i + 1)) ∙ store-cons (store out 0 (take i steps)) i (get_or steps i 0) [])

pub front_of : (z xs k : List ℕ) (n : ℕ) → n ≡ length xs → k ≡ store z 0 xs → length xs ≤ length z → (n ≤ length k) × (take n k ≡ xs)
front_of z xs k n e g h = (omega (arith, ap length g, store_length z 0 xs), rw g (store-front z xs n (sym e) (omega arith)))
