-- A line is reported as wrong exactly if it is not accepted.
use Rattle.std.specs.Prelude.{◌≡◌, Bool, true, false, ◌&&◌, ◌||◌, List, [], ◌∷◌, map, ℕ, suc, ◌+◌, ◌<◌, eqb, length, is_some}
use Rattle.std.proofs.Math.Path.{refl}
use Rattle.std.proofs.Common.{ap, ◌∙◌, sym, arith}
use Rattle.std.proofs.Math.Bool.{and-false, and-true, or-false, and_assoc, and_comm}
use borrow.Author.Tests.{ne_eqb}
use Rattle.std.proofs.lemmas.List.{length-map}
use Rattle.codec.specs.Laws.Decide.{passes, fails, split}
use Rattle.lines.specs.declared.field.Field.{Field}
use Rattle.lines.specs.declared.field.Field.TheVariants as field
use Rattle.lines.specs.Asked.{read_by, write_by, plain_of, fielded_of, asked_of}
use Rattle.lines.specs.Field.{is_number, is_read, is_write}
use Rattle.lines.specs.Fields.{field_of, fields_of}
use Rattle.lines.specs.Rows.{all_numbers, is_row, sizes_of}
use Rattle.lines.specs.Words.{pieces_of, filled_of, words_in, words_of}
use Rattle.faults.specs.declared.expected.Expected.{Expected}
use Rattle.faults.specs.declared.expected.Expected.TheVariants.{Tasks, Objects, Fields, Owner, Start, Task, Letter, ReadObject, WriteObject, ReadField, WriteField, Value, End}
use Rattle.faults.specs.declared.expected.Form.TheVariants as form
use Rattle.faults.specs.declared.kind.Kind.{Kind}
use Rattle.faults.specs.declared.kind.Kind.TheVariants.{Sizes, Owners, Starts, Access}
use Rattle.faults.specs.Expected.{form_of, fits_as, behind_of, next_of}
use Rattle.faults.specs.Stop.{stop_of}
use Rattle.faults.specs.Whole.{ends_well, is_whole}

-- every word has at least one byte
Filled : List (List ℕ) → Type 0
Filled [] = Unit {0}
Filled (w ∷ ws) = (0 < length w) × Filled ws

filled-all : (ws : List (List ℕ)) → Filled (filled_of ws)
unfolding filled_of Filled
filled-all [] = tt
filled-all ([] ∷ ws) = filled-all ws
filled-all ((b ∷ w) ∷ ws) = (omega arith, filled-all ws)

words-filled : (l : List ℕ) → Filled (words_in l)
unfolding words_in
words-filled l = filled-all (pieces_of l)

and_swap : (a b c : Bool) → (a && (b && c)) ≡ (b && (a && c))
and_swap a b c = sym (and_assoc a b c) ∙ ap (λ (x : Bool). x && c) (and_comm a b) ∙ and_assoc b a c

-- a number is not W, and neither is R
number_other : (f : Field) → is_number f ≡ true → is_write f ≡ false
number_other (field.Number n) h = refl
number_other field.Write h = sym h
number_other field.Read h = refl
number_other field.Other h = refl

read_other : (f : Field) → is_read f ≡ true → is_write f ≡ false
read_other field.Read h = refl
read_other field.Write h = sym h
read_other (field.Number n) h = refl
read_other field.Other h = refl

-- reading one more word
module _ (named : Bool) (kind : Kind) (n : ℕ) (e : Expected) (k : ℕ) where
  whole-end : is_whole kind n (stop_of named e k []) ≡ ends_well kind n e k
  unfolding is_whole stop_of
  whole-end = refl

  module _ (w : List ℕ) (ws : List (List ℕ)) (h : 0 < length w) where
    whole-on : is_whole kind n (stop_of named e k (w ∷ ws)) ≡ (fits_as e (field_of w) && is_whole kind n (stop_of named (next_of named e (field_of w)) (k + 1) ws))
    unfolding is_whole stop_of
    whole-on = elim (split (fits_as e (field_of w))) [
      | passes p ↦ rw p
      | fails p ↦ rw (p, ne_eqb (length w) 0 (λ z. omega arith))
    ]

    -- a number
    whole-number : form_of e ≡ form.Number → is_whole kind n (stop_of named e k (w ∷ ws)) ≡ (is_number (field_of w) && is_whole kind n (stop_of named (behind_of named e) (k + 1) ws))
    whole-number f = whole-on ∙ elim (split (is_number (field_of w))) [
      | passes p ↦ rw (f, p, number_other (field_of w) p)
      | fails p ↦ rw (f, p)
    ]

    -- R or W
    whole_letter : form_of e ≡ form.Letter → behind_of named e ≡ ReadObject
        → is_whole kind n (stop_of named e k (w ∷ ws)) ≡ ((is_read (field_of w) && is_whole kind n (stop_of named ReadObject (k + 1) ws)) || (is_write (field_of w) && is_whole kind n (stop_of named WriteObject (k + 1) ws)))
    whole_letter f b = whole-on ∙ elim (split (is_read (field_of w))) [
      | passes p ↦ rw (f, b, p, read_other (field_of w) p) (sym (or-false _))
      | fails p ↦ elim (split (is_write (field_of w))) [
        | passes q ↦ rw (f, b, p, q)
        | fails q ↦ rw (f, p, q)
      ]
    ]

-- any number of numbers
numbers_whole : (named : Bool) (kind : Kind) (n : ℕ) (e : Expected) → form_of e ≡ form.Number → behind_of named e ≡ e → ((k : ℕ) → ends_well kind n e k ≡ eqb k n)
    → (k : ℕ) (ws : List (List ℕ)) → Filled ws → (eqb (k + length ws) n && all_numbers (map field_of ws)) ≡ is_whole kind n (stop_of named e k ws)
unfolding all_numbers Filled
numbers_whole named kind n e f b g k [] h = let z : k + 0 ≡ k = omega arith in rw (whole-end named kind n e k, g k, z) (and-true (eqb k n))
numbers_whole named kind n e f b g k (w ∷ ws) h =
    let z : k + suc (length ws) ≡ k + 1 + length ws = omega arith in
    rw (whole-number named kind n e k w ws h.0 f, b, ← numbers_whole named kind n e f b g (k + 1) ws h.1, z) (and_swap (eqb (k + 1 + length ws) n) (is_number (field_of w)) (all_numbers (map field_of ws)))

-- owners and starting values
row-whole : (named : Bool) (kind : Kind) (n : ℕ) (e : Expected) → form_of e ≡ form.Number → behind_of named e ≡ e → ((k : ℕ) → ends_well kind n e k ≡ eqb k n) → (line : List ℕ)
    → is_row n (fields_of line) ≡ is_whole kind n (stop_of named e 0 (words_of line))
unfolding is_row
row-whole named kind n e f b g line =
    let z : 0 + length (words_of line) ≡ length (words_of line) = omega arith in
    rw (← numbers_whole named kind n e f b g 0 (words_of line) (words-filled _), z, length-map (words_of line) field_of)

pub owners-whole : (named : Bool) (n : ℕ) (line : List ℕ) → is_row n (fields_of line) ≡ is_whole Owners n (stop_of named Owner 0 (words_of line))
owners-whole named n line = row-whole named Owners n Owner refl refl (λ k. refl) line

pub starts-whole : (named : Bool) (n : ℕ) (line : List ℕ) → is_row n (fields_of line) ≡ is_whole Starts n (stop_of named Start 0 (words_of line))
starts-whole named n line = row-whole named Starts n Start refl refl (λ k. refl) line

-- T and N, or T, N and F
sizes_words : (named : Bool) (n : ℕ) (ws : List (List ℕ)) → Filled ws → (is_row 2 (map field_of ws) || is_row 3 (map field_of ws)) ≡ is_whole Sizes n (stop_of named Tasks 0 ws)
unfolding is_row all_numbers Filled
sizes_words named n [] h =
    rw (whole-end named Sizes n Tasks 0)
sizes_words named n (a ∷ []) h =
    rw (whole-number named Sizes n Tasks 0 a [] h.0 refl, whole-end named Sizes n Objects 1)
    (simp and-false)
sizes_words named n (a ∷ b ∷ []) h =
    rw (whole-number named Sizes n Tasks 0 a (b ∷ []) h.0 refl, whole-number named Sizes n Objects 1 b [] h.1.0 refl, whole-end named Sizes n Fields 2)
    (or-false _)
sizes_words named n (a ∷ b ∷ c ∷ []) h =
    rw (whole-number named Sizes n Tasks 0 a (b ∷ c ∷ []) h.0 refl, whole-number named Sizes n Objects 1 b (c ∷ []) h.1.0 refl, whole-number named Sizes n Fields 2 c [] h.1.1.0 refl, whole-end named Sizes n End 3)
sizes_words named n (a ∷ b ∷ c ∷ d ∷ ws) h =
    rw (ne_eqb (suc (suc (suc (suc (length (map field_of ws)))))) 2 (λ z. omega arith), ne_eqb (suc (suc (suc (suc (length (map field_of ws)))))) 3 (λ z. omega arith), whole-number named Sizes n Tasks 0 a (b ∷ c ∷ d ∷ ws) h.0 refl, whole-number named Sizes n Objects 1 b (c ∷ d ∷ ws) h.1.0 refl, whole-number named Sizes n Fields 2 c (d ∷ ws) h.1.1.0 refl, whole-on named Sizes n End 3 d ws h.1.1.1.0)
    (simp and-false)

pub sizes_whole : (named : Bool) (n : ℕ) (line : List ℕ) → is_some (sizes_of (fields_of line)) ≡ is_whole Sizes n (stop_of named Tasks 0 (words_of line))
unfolding sizes_of
sizes_whole named n line = elim (split (is_row 2 (fields_of line))) [
  | passes p ↦ rw (← sizes_words named n (words_of line) (words-filled _), p)
  | fails p ↦ elim (split (is_row 3 (fields_of line))) [
    | passes q ↦ rw (← sizes_words named n (words_of line) (words-filled _), p, q)
    | fails q ↦ rw (← sizes_words named n (words_of line) (words-filled _), p, q)
  ]
]

-- an access
read_good : (right : Bool) (t o i : Field) → is_some (read_by right t o i) ≡ (right && (is_number t && (is_number o && is_number i)))
unfolding read_by
read_good right t o i = elim (split (right && (is_number t && (is_number o && is_number i)))) [
  | passes p ↦ rw p
  | fails p ↦ rw p
]

write_good : (right : Bool) (t o i v : Field) → is_some (write_by right t o i v) ≡ (right && (is_number t && (is_number o && (is_number i && is_number v))))
unfolding write_by
write_good right t o i v = elim (split (right && (is_number t && (is_number o && (is_number i && is_number v))))) [
  | passes p ↦ rw p
  | fails p ↦ rw p
]

plain_words : (n : ℕ) (ws : List (List ℕ)) → Filled ws → is_some (plain_of (map field_of ws)) ≡ is_whole Access n (stop_of false Task 0 ws)
unfolding plain_of Filled
plain_words n [] h =
    rw (whole-end false Access n Task 0)
plain_words n (a ∷ []) h =
    rw (whole-number false Access n Task 0 a [] h.0 refl, whole-end false Access n Letter 1)
    (simp and-false)
plain_words n (a ∷ b ∷ []) h =
    rw (whole-number false Access n Task 0 a (b ∷ []) h.0 refl, whole_letter false Access n Letter 1 b [] h.1.0 refl refl, whole-end false Access n ReadObject 2, whole-end false Access n WriteObject 2)
    (simp and-false)
plain_words n (a ∷ b ∷ c ∷ []) h =
    rw (read_good, whole-number false Access n Task 0 a (b ∷ c ∷ []) h.0 refl, whole_letter false Access n Letter 1 b (c ∷ []) h.1.0 refl refl, whole-number false Access n ReadObject 2 c [] h.1.1.0 refl, whole-number false Access n WriteObject 2 c [] h.1.1.0 refl, whole-end false Access n End 3, whole-end false Access n Value 3)
    (simp (and-false, and-true, or-false) (and_swap (is_read (field_of b)) (is_number (field_of a)) (is_number (field_of c))))
plain_words n (a ∷ b ∷ c ∷ d ∷ []) h =
    rw (write_good, whole-number false Access n Task 0 a (b ∷ c ∷ d ∷ []) h.0 refl, whole_letter false Access n Letter 1 b (c ∷ d ∷ []) h.1.0 refl refl, whole-number false Access n ReadObject 2 c (d ∷ []) h.1.1.0 refl, whole-number false Access n WriteObject 2 c (d ∷ []) h.1.1.0 refl, whole-on false Access n End 3 d [] h.1.1.1.0, whole-number false Access n Value 3 d [] h.1.1.1.0 refl, whole-end false Access n End 4)
    (simp (and-false, and-true) (and_swap (is_write (field_of b)) (is_number (field_of a)) (is_number (field_of c) && is_number (field_of d))))
plain_words n (a ∷ b ∷ c ∷ d ∷ e ∷ ws) h =
    let l = suc (suc (suc (suc (suc (length (map field_of ws)))))) in
    rw (ne_eqb l 3 (λ z. omega arith), ne_eqb l 4 (λ z. omega arith), whole-number false Access n Task 0 a (b ∷ c ∷ d ∷ e ∷ ws) h.0 refl, whole_letter false Access n Letter 1 b (c ∷ d ∷ e ∷ ws) h.1.0 refl refl, whole-number false Access n ReadObject 2 c (d ∷ e ∷ ws) h.1.1.0 refl, whole-number false Access n WriteObject 2 c (d ∷ e ∷ ws) h.1.1.0 refl, whole-on false Access n End 3 d (e ∷ ws) h.1.1.1.0, whole-number false Access n Value 3 d (e ∷ ws) h.1.1.1.0 refl, whole-on false Access n End 4 e ws h.1.1.1.1.0)
    (simp and-false)

fielded_words : (n : ℕ) (ws : List (List ℕ)) → Filled ws → is_some (fielded_of (map field_of ws)) ≡ is_whole Access n (stop_of true Task 0 ws)
unfolding fielded_of Filled
fielded_words n [] h =
    rw (whole-end true Access n Task 0)
fielded_words n (a ∷ []) h =
    rw (whole-number true Access n Task 0 a [] h.0 refl, whole-end true Access n Letter 1)
    (simp and-false)
fielded_words n (a ∷ b ∷ []) h =
    rw (whole-number true Access n Task 0 a (b ∷ []) h.0 refl, whole_letter true Access n Letter 1 b [] h.1.0 refl refl, whole-end true Access n ReadObject 2, whole-end true Access n WriteObject 2)
    (simp and-false)
fielded_words n (a ∷ b ∷ c ∷ []) h =
    rw (whole-number true Access n Task 0 a (b ∷ c ∷ []) h.0 refl, whole_letter true Access n Letter 1 b (c ∷ []) h.1.0 refl refl, whole-number true Access n ReadObject 2 c [] h.1.1.0 refl, whole-number true Access n WriteObject 2 c [] h.1.1.0 refl, whole-end true Access n ReadField 3, whole-end true Access n WriteField 3)
    (simp and-false)
fielded_words n (a ∷ b ∷ c ∷ d ∷ []) h =
    rw (read_good, whole-number true Access n Task 0 a (b ∷ c ∷ d ∷ []) h.0 refl, whole_letter true Access n Letter 1 b (c ∷ d ∷ []) h.1.0 refl refl, whole-number true Access n ReadObject 2 c (d ∷ []) h.1.1.0 refl, whole-number true Access n WriteObject 2 c (d ∷ []) h.1.1.0 refl, whole-number true Access n ReadField 3 d [] h.1.1.1.0 refl, whole-number true Access n WriteField 3 d [] h.1.1.1.0 refl, whole-end true Access n End 4, whole-end true Access n Value 4)
    (simp (and-false, and-true, or-false) (and_swap (is_read (field_of b)) (is_number (field_of a)) (is_number (field_of c) && is_number (field_of d))))
fielded_words n (a ∷ b ∷ c ∷ d ∷ e ∷ []) h =
    rw (write_good, whole-number true Access n Task 0 a (b ∷ c ∷ d ∷ e ∷ []) h.0 refl, whole_letter true Access n Letter 1 b (c ∷ d ∷ e ∷ []) h.1.0 refl refl, whole-number true Access n ReadObject 2 c (d ∷ e ∷ []) h.1.1.0 refl, whole-number true Access n WriteObject 2 c (d ∷ e ∷ []) h.1.1.0 refl, whole-number true Access n ReadField 3 d (e ∷ []) h.1.1.1.0 refl, whole-number true Access n WriteField 3 d (e ∷ []) h.1.1.1.0 refl, whole-on true Access n End 4 e [] h.1.1.1.1.0, whole-number true Access n Value 4 e [] h.1.1.1.1.0 refl, whole-end true Access n End 5)
    (simp (and-false, and-true) (and_swap (is_write (field_of b)) (is_number (field_of a)) (is_number (field_of c) && (is_number (field_of d) && is_number (field_of e)))))
fielded_words n (a ∷ b ∷ c ∷ d ∷ e ∷ f ∷ ws) h =
    let l = suc (suc (suc (suc (suc (suc (length (map field_of ws))))))) in
    rw (ne_eqb l 4 (λ z. omega arith), ne_eqb l 5 (λ z. omega arith), whole-number true Access n Task 0 a (b ∷ c ∷ d ∷ e ∷ f ∷ ws) h.0 refl, whole_letter true Access n Letter 1 b (c ∷ d ∷ e ∷ f ∷ ws) h.1.0 refl refl, whole-number true Access n ReadObject 2 c (d ∷ e ∷ f ∷ ws) h.1.1.0 refl, whole-number true Access n WriteObject 2 c (d ∷ e ∷ f ∷ ws) h.1.1.0 refl, whole-number true Access n ReadField 3 d (e ∷ f ∷ ws) h.1.1.1.0 refl, whole-number true Access n WriteField 3 d (e ∷ f ∷ ws) h.1.1.1.0 refl, whole-on true Access n End 4 e (f ∷ ws) h.1.1.1.1.0, whole-number true Access n Value 4 e (f ∷ ws) h.1.1.1.1.0 refl, whole-on true Access n End 5 f ws h.1.1.1.1.1.0)
    (simp and-false)

pub access-whole : (named : Bool) (n : ℕ) (line : List ℕ) → is_some (asked_of named (fields_of line)) ≡ is_whole Access n (stop_of named Task 0 (words_of line))
access-whole false n line = plain_words n (words_of line) (words-filled _)
access-whole true n line = fielded_words n (words_of line) (words-filled _)

-- the word shown in the message is not what was expected
pub word_unfit : (named : Bool) (e : Expected) (k : ℕ) (ws : List (List ℕ)) → 0 < length (stop_of named e k ws).word → fits_as (stop_of named e k ws).expected (field_of (stop_of named e k ws).word) ≡ false
unfolding stop_of
word_unfit named e k [] h = absurd (let z : ⊥ = omega arith in z)
word_unfit named e k (w ∷ ws) h = elim (split (fits_as e (field_of w))) [
  | passes p ↦ rw p (word_unfit named (next_of named e (field_of w)) (k + 1) ws (rw p at h))
  | fails p ↦ rw p p
]
