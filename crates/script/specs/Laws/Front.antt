-- Bytes put at the front of a list.
use Rattle.std.specs.Prelude.{◌≡◌, List, ◌++◌, ℕ, ◌+◌, ◌≤◌, length, take, drop}
use Rattle.std.proofs.Common.{ap, ◌∙◌, sym, append_assoc, arith, take-append-drop, length-take-le}
use Rattle.std.proofs.lemmas.List.{drop-append-le}
use Rattle.codec.specs.Laws.Store.{store_split}
use Rattle.text.specs.Appended.{Appended}

-- bytes put at the front of a list's first n elements are at the front of the list
pub front_appended : (l part bytes : List ℕ) (n end : ℕ) → n ≤ length l → end ≤ n → Appended bytes (take n l) 0 part end → Appended bytes l 0 (part ++ drop n l) end
front_appended l part bytes n end h k a =
    let e : length (take n l) ≡ n = length-take-le n l h in
    let f : 0 + length bytes ≤ n = omega (arith, a.behind) in
    record {
      behind = a.behind;
      filled = rw (a.filled, store_split (take n l) 0 bytes (omega arith), store_split l 0 bytes (omega arith)) (append_assoc bytes (drop (0 + length bytes) (take n l)) (drop n l)
          ∙ ap (λ (x : List ℕ). bytes ++ x) (sym (drop-append-le (0 + length bytes) (take n l) (drop n l) (omega arith)) ∙ ap (drop (0 + length bytes)) (take-append-drop n l)));
    }
