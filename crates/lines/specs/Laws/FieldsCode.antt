-- A line's fields, read one after another into a row.
use Rattle.std.specs.Prelude.{◌≡◌, refl, List, [], ◌∷◌, ◌++◌, map, ℕ, zero, suc, ◌+◌, ◌-◌, ◌<◌, ◌≤◌, length, take, drop, set}
use Rattle.std.proofs.Common.{ap, ◌∙◌, sym, add-zero, arith, length-drop, take_all, length-take-le}
use Rattle.std.proofs.lemmas.List.Edits.{sets}
use Rattle.lines.specs.declared.field.Field.{Field}
use Rattle.lines.specs.Fields.{field_of}
use Rattle.lines.specs.Words.{words_in}

-- the fields of a line without its comment
abbrev pub fields_in : List ℕ → List Field
fields_in line = map field_of (words_in line)

-- the element at an index of a list
pub cut : (n : ℕ) (x : Field) (l r : List Field) → drop n l ≡ x ∷ r → (n < length l) × (take (n + 1) l ≡ take n l ++ (x ∷ [])) × (drop (n + 1) l ≡ r)
cut zero x [] r h = absurd (let z : ⊥ = cc in z)
cut zero x (y ∷ l) r h = (omega arith, (cc), (cc))
cut (suc n) x [] r h = absurd (let z : ⊥ = cc in z)
cut (suc n) x (y ∷ l) r h =
    let k = cut n x l r h in
    let e : suc n + 1 ≡ suc (n + 1) = omega arith in
    (omega (arith, k.0), rw e (ap (λ (t : List Field). y ∷ t) k.1), rw e k.2)

sets-append : (l : List Field) (at : ℕ) (xs : List Field) (y : Field) → set (sets l at xs) (at + length xs) y ≡ sets l at (xs ++ (y ∷ []))
sets-append l at [] y = rw add-zero
sets-append l at (x ∷ xs) y =
    ap (λ (n : ℕ). set (sets (set l at x) (suc at) xs) n y) (omega arith) ∙ sets-append (set l at x) (suc at) xs y

-- this many fields have been read into the row; the others follow
pub record Reads (line : List ℕ) (row : List Field) (rest : List ℕ) (count : ℕ) (now : List Field) : Type 0 where
  pub within : count ≤ length (fields_in line)
  pub held : now ≡ sets row 0 (take count (fields_in line))
  pub left : drop count (fields_in line) ≡ fields_in rest

pub reads_none : (line : List ℕ) (row : List Field) → Reads line row line 0 row
reads_none line row = record { within = omega arith; held = refl; left = refl }

pub reads_more : (line : List ℕ) (row : List Field) (rest : List ℕ) (count : ℕ) (now : List Field) (word behind : List ℕ) → Reads line row rest count now
    → words_in rest ≡ word ∷ words_in behind → Reads line row behind (count + 1) (set now count (field_of word))
reads_more line row rest count now word behind r w =
    let s = cut count (field_of word) (fields_in line) (fields_in behind) (r.left ∙ ap (map field_of) w) in
    let z : count ≡ 0 + length (take count (fields_in line)) = omega (arith, length-take-le count (fields_in line) r.within) in
    record {
      within = omega (arith, s.0);
      held = rw (r.held, s.1) (ap (λ (i : ℕ). set (sets row 0 (take count (fields_in line))) i (field_of word)) z ∙ sets-append row 0 (take count (fields_in line)) (field_of word));
      left = s.2;
    }

pub reads_all : (line : List ℕ) (row : List Field) (rest : List ℕ) (count : ℕ) (now : List Field) → Reads line row rest count now → words_in rest ≡ []
    → (count ≡ length (fields_in line)) × (now ≡ sets row 0 (fields_in line))
reads_all line row rest count now r n =
    let z : length (fields_in line) - count ≡ 0 = sym (length-drop count (fields_in line)) ∙ ap length (r.left ∙ ap (map field_of) n) in
    let e : count ≡ length (fields_in line) = omega (arith, r.within) in
    (e, r.held ∙ ap (sets row 0) (take_all count (fields_in line) (omega arith)))
