-- A row of fields as the code reads it.
use Rattle.std.specs.Prelude.{◌≡◌, refl, Bool, true, false, not, List, [], ◌∷◌, map, ℕ, suc, ◌+◌, ◌-◌, ◌<◌, ◌≤◌, eqb, length, take, drop, set, Option, Some, None, is_some}
use Rattle.std.proofs.Common.{true≢false, ap, ◌∙◌, sym, add-one, arith, eqb-true, eq-eqb, ne_eqb, length-drop, take_all, take-suc-set}
use Rattle.std.proofs.Math.Bool.{and-false}
use Rattle.std.proofs.lemmas.List.{map-append, set_past}
use Rattle.std.proofs.lemmas.List.Sums.{take_while-cons}
use Rattle.std.proofs.Math.ListN.{get_or-append}
use Rattle.std.proofs.lemmas.List.Edits.{sets, sets-eq}
use Rattle.codec.specs.Laws.Decide.{both_pass}
use Rattle.lines.specs.declared.field.Field.{Field}
use Rattle.lines.specs.declared.field.Field.TheVariants.{Other}
use Rattle.lines.specs.Asked.{word_at}
use Rattle.lines.specs.Field.{numeral_of, is_number, value_of}
use Rattle.lines.specs.Fields.{field_of}
use Rattle.lines.specs.Laws.FieldsCode.{fields_in, cut}
use Rattle.lines.specs.Rows.{all_numbers, is_row, values_of, leading}
use Rattle.lines.specs.Words.{words_in, NextWord}
use Rattle.lines.specs.declared.words.Word.{Word}

-- a row that holds a list from its start
pub row_at : (row xs : List Field) (i : ℕ) → length xs ≤ length row → i < length xs → word_at (sets row 0 xs) i ≡ word_at xs i
row_at row xs i h k = rw (sets-eq xs row 0 (omega arith)) (get_or-append xs (drop (0 + length xs) row) Other i k)

pub row_facts : (n : ℕ) (f : List Field) → is_row n f ≡ true → (length f ≡ n) × (all_numbers f ≡ true)
unfolding is_row
row_facts n f e = let b = both_pass (eqb (length f) n) (all_numbers f) e in (eqb-true (length f) n b.0, b.1)

-- the numbers in front, one by one
pub leading-number : (f : Field) (fs : List Field) (n : ℕ) → numeral_of f ≡ Some n → leading (f ∷ fs) ≡ n ∷ leading fs
leading-number f fs n e = rw (take_while-cons is_number f fs, e, e)

pub leading-other : (f : Field) (fs : List Field) → numeral_of f ≡ None → leading (f ∷ fs) ≡ []
leading-other f fs e = rw (take_while-cons is_number f fs, e)

-- what is put behind a row's end changes nothing
sets_past : (row xs : List ℕ) (i : ℕ) → length row ≤ i → sets row i xs ≡ row
sets_past row [] i h = refl
sets_past row (x ∷ xs) i h = rw (set_past row i x h) (sets_past row xs (suc i) (omega arith))

-- of a line's fields this many have been read, each is a number, and the numbers are in what was a row; those that follow are to be put in
pub record Rows (line row rest : List ℕ) (count : ℕ) (now : List ℕ) : Type 0 where
  pub within : count ≤ length (fields_in line)
  pub left : drop count (fields_in line) ≡ fields_in rest
  pub good : all_numbers (fields_in line) ≡ all_numbers (fields_in rest)
  pub held : take count now ≡ values_of (take count (fields_in line))
  pub stored : sets now count (leading (fields_in rest)) ≡ sets row 0 (leading (fields_in line))

pub rows_none : (line row : List ℕ) → Rows line row line 0 row
rows_none line row = record { within = omega arith; left = refl; good = refl; held = refl; stored = refl }

module _ {line row rest : List ℕ} {count : ℕ} {now : List ℕ} (r : Rows line row rest count now) where
  rows-length : length (fields_in line) - count ≡ length (fields_in rest)
  rows-length = sym (length-drop count (fields_in line)) ∙ ap length r.left

  -- the row where the reading ends: no word is left, the row is full, or a word is no number
  pub stored-ended : words_in rest ≡ [] → now ≡ sets row 0 (leading (fields_in line))
  stored-ended e = rw e at r.stored

  pub stored-full : count ≡ length now → now ≡ sets row 0 (leading (fields_in line))
  stored-full h = sym (sets_past now (leading (fields_in rest)) count (omega arith)) ∙ r.stored

  -- no word is left, too early or in time
  pub rows-short : words_in rest ≡ [] → count < length now → is_row (length now) (fields_in line) ≡ false
  unfolding is_row
  rows-short e h =
      let z : length (fields_in rest) ≡ 0 = rw e in
      rw (ne_eqb (length (fields_in line)) (length now) (λ k. omega (arith, rows-length, r.within)))

  pub rows-all : words_in rest ≡ [] → count ≡ length now → (is_row (length now) (fields_in line) ≡ true) × (now ≡ values_of (fields_in line))
  unfolding is_row all_numbers
  rows-all e h =
      let z : length (fields_in rest) ≡ 0 = rw e in
      let k : length (fields_in line) ≡ length now = omega (arith, rows-length, r.within) in
      let g : all_numbers (fields_in line) ≡ true = r.good ∙ rw e in (
        rw (eq-eqb (length (fields_in line)) (length now) k, g),
        sym (take_all count now (omega arith)) ∙ r.held ∙ ap values_of (take_all count (fields_in line) (omega arith)),
      )

  -- a word more
  module _ (word behind : List ℕ) (w : words_in rest ≡ word ∷ words_in behind) where
    pub rows-long : count ≡ length now → is_row (length now) (fields_in line) ≡ false
    unfolding is_row
    rows-long h =
        let z : length (fields_in rest) ≡ suc (length (fields_in behind)) = rw w in
        rw (ne_eqb (length (fields_in line)) (length now) (λ k. omega (arith, rows-length)))

    pub stored-bad : numeral_of (field_of word) ≡ None → now ≡ sets row 0 (leading (fields_in line))
    stored-bad e = rw (w, leading-other (field_of word) (fields_in behind) e) at r.stored

    pub rows-bad : numeral_of (field_of word) ≡ None → is_row (length now) (fields_in line) ≡ false
    unfolding is_row all_numbers
    rows-bad e = rw (r.good, w, e) (and-false _)

    pub rows-more : (n : ℕ) → count < length now → numeral_of (field_of word) ≡ Some n → Rows line row behind (count + 1) (set now count n)
    unfolding all_numbers
    rows-more n h e =
        let s = cut count (field_of word) (fields_in line) (fields_in behind) (r.left ∙ ap (map field_of) w) in
        let v : value_of (field_of word) ≡ n = rw e in
        record {
          within = omega (arith, s.0);
          left = s.2;
          good = r.good ∙ rw (w, e);
          held = rw (add-one, take-suc-set now count n h, r.held, ← add-one, s.1) (sym (map-append value_of (take count (fields_in line)) (field_of word ∷ []) ∙ rw v));
          stored = rw add-one (rw (w, leading-number (field_of word) (fields_in behind) n e) at r.stored);
        }

  -- whether a word is left when the row is full
  pub rows-told : (o : Option Word) (b : Bool) → NextWord rest o → is_some o ≡ not b → count ≡ length now
      → (b ≡ is_row (length now) (fields_in line)) × (b ≡ true → now ≡ values_of (fields_in line))
  rows-told None true n e h = let a = rows-all n h in (sym a.0, λ _. a.1)
  rows-told None false n e h = absurd (true≢false (sym e))
  rows-told (Some w) false n e h = (sym (rows-long w.bytes.now w.rest.now n.found h), λ z. absurd (true≢false (sym z)))
  rows-told (Some w) true n e h = absurd (true≢false e)
