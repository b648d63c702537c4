-- Laws of `Memory`.
use Rattle.std.specs.Prelude.{◌≡◌, true, false, ℕ}
use Rattle.std.proofs.Math.Path.{refl, sym}
use Rattle.std.proofs.Common.{◌∙◌, arith}
use mathlib.Core.List.{[], ◌∷◌}
use Rattle.std.proofs.Math.Bool.{and-false}
use Rattle.std.proofs.Math.Decide.{dec_lt}
use borrow.Author.Tests.{lt-ltb, le-ltb}
use Rattle.codec.specs.Laws.Decide.{passes, fails, split}
use Rattle.history.specs.Entry.{Entry, writes, value_of}
use Rattle.history.specs.History.{History, count, At, here, there}
use Rattle.history.specs.Closed.{In}
use Rattle.history.specs.Memory.{reference, memory_of}

module _ (start : ℕ → ℕ) where
  pub reference-none : (c : ℕ) → reference start [] c ≡ start c
  unfolding reference
  reference-none c = refl

  pub reference-write : (e : Entry) (g : History) (c : ℕ) → writes c e.act ≡ true → reference start (e ∷ g) c ≡ value_of e.act
  unfolding reference
  reference-write e g c w = rw w

  pub reference_keep : (e : Entry) (g : History) (c : ℕ) → writes c e.act ≡ false → reference start (e ∷ g) c ≡ reference start g c
  unfolding reference
  reference_keep e g c w = rw w

  pub memory-write : (d : ℕ → ℕ) (e : Entry) (g : History) (c : ℕ) → writes c e.act ≡ true → In d e g → memory_of start d (e ∷ g) c ≡ value_of e.act
  unfolding memory_of
  memory-write d e g c w i = rw (w, lt-ltb (count e.task g) (d e.task) i)

  pub memory_keep : (d : ℕ → ℕ) (e : Entry) (g : History) (c : ℕ) → writes c e.act ≡ false → memory_of start d (e ∷ g) c ≡ memory_of start d g c
  unfolding memory_of
  memory_keep d e g c w = rw w

  -- a write that is not in leaves the memory as it was
  pub memory-out : (d : ℕ → ℕ) (e : Entry) (g : History) (c : ℕ) → (In d e g → ⊥) → memory_of start d (e ∷ g) c ≡ memory_of start d g c
  unfolding memory_of
  memory-out d e g c o = rw (le-ltb (count e.task g) (d e.task) (omega arith), and-false)

  pub memory_start : (d : ℕ → ℕ) → ((t : ℕ) → d t ≡ 0) → (h : History) (c : ℕ) → memory_of start d h c ≡ start c
  unfolding memory_of
  memory_start d z [] c = refl
  memory_start d z (e ∷ g) c = memory-out d e g c (λ i. omega (arith, z e.task)) ∙ memory_start d z g c

  -- if all writes of c are in, it is the reference memory
  pub memory-all : (d : ℕ → ℕ) (c : ℕ) (h : History) → ((e : Entry) (g : History) → At e g h → writes c e.act ≡ true → In d e g)
      → memory_of start d h c ≡ reference start h c
  unfolding memory_of
  memory-all d c [] all = sym (reference-none c)
  memory-all d c (e ∷ g) all = elim (split (writes c e.act)) [
    | passes w ↦ memory-write d e g c w (all e g here w) ∙ sym (reference-write e g c w)
    | fails w ↦ memory_keep d e g c w ∙ memory-all d c g (λ e' g' a. all e' g' (there a)) ∙ sym (reference_keep e g c w)
  ]

  -- counts with the same writes of c in give c the same value
  pub memory-same : (d d' : ℕ → ℕ) (c : ℕ) (h : History)
      → ((e : Entry) (g : History) → At e g h → writes c e.act ≡ true → (In d e g → In d' e g) × (In d' e g → In d e g))
      → memory_of start d h c ≡ memory_of start d' h c
  unfolding memory_of
  memory-same d d' c [] same = refl
  memory-same d d' c (e ∷ g) same =
      let older : memory_of start d g c ≡ memory_of start d' g c = memory-same d d' c g (λ e' g' a. same e' g' (there a)) in
      elim (split (writes c e.act)) [
        | fails w ↦ memory_keep d e g c w ∙ older ∙ sym (memory_keep d' e g c w)
        | passes w ↦ elim (dec_lt (count e.task g) (d e.task)) [
          | yes i ↦ memory-write d e g c w i ∙ sym (memory-write d' e g c w ((same e g here w).0 i))
          | no o ↦ memory-out d e g c o ∙ older ∙ sym (memory-out d' e g c (λ i. o ((same e g here w).1 i)))
        ]
      ]

  -- writes of c after e that are not in make no difference
  pub memory-skip : (d : ℕ → ℕ) (c : ℕ) {e : Entry} {g h : History} → At e g h
      → ((f : Entry) (k : History) → At f k h → At e g k → writes c f.act ≡ true → In d f k → ⊥)
      → memory_of start d h c ≡ memory_of start d (e ∷ g) c
  memory-skip d c here out = refl
  memory-skip d c {e} {g} (there {f = f} {h = h} a) out =
      let older : memory_of start d h c ≡ memory_of start d (e ∷ g) c = memory-skip d c a (λ f' k' b. out f' k' (there b)) in
      elim (split (writes c f.act)) [
        | passes w ↦ memory-out d f h c (out f h here a w) ∙ older
        | fails w ↦ memory_keep d f h c w ∙ older
      ]
