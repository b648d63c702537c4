-- One more access: the core of the proof, and the reason why a step answers the value of the recorded access (document 01, "Whole runs").
-- Let d be closed counts, and e the next access of task t with its orderings met. Then the counts with one more for t are closed too; the
-- memory of the writes that are in changes as e does; and if e is a read, that memory holds the value that e returned on the box.
use Rattle.std.specs.Prelude.{◌≡◌, refl, true, false, ℕ, suc, ◌<◌, eqb}
use Rattle.std.proofs.Common.{sym, ap, ◌∙◌, arith, eq-eqb}
use Rattle.std.proofs.Math.Decide.{dec_lt}
use Rattle.codec.specs.Laws.Decide.{passes, fails, split, never}
use Rattle.history.specs.Entry.{Act, read, write, acquire, Entry, touches, writes, value_of}
use Rattle.history.proofs.Laws.Entry.{writes-touches, conflicts_with_write, write-conflicts}
use Rattle.history.specs.History.{History, count, At}
use Rattle.history.proofs.Laws.History.{at_lt}
use Rattle.history.specs.Access.{Access}
use Rattle.history.proofs.Laws.Access.{access_unique}
use Rattle.history.specs.Closed.{In, Met, Closed}
use Rattle.history.proofs.Laws.Closed.{met_mono}
use Rattle.history.specs.Memory.{memory_of}
use Rattle.history.proofs.Laws.Memory.{memory-write, memory_keep, memory-all, memory-same, memory-skip}
use Rattle.history.specs.Sound.{Sound}
use Rattle.history.specs.Replay.{one_more, perform, shown}
use Rattle.history.proofs.Laws.OneMore.{one_more-own, one_more_rises, comes_in, in_before}

module _ {h : History} (d : ℕ → ℕ) (t : ℕ) {e : Entry} (a : Access h t (suc (d t)) e) where
  now_in : In (one_more t d) e a.before
  now_in = rw (a.own, one_more-own t d) (omega (arith, a.number))

  not_yet : In d e a.before → ⊥
  not_yet i = let j : count t a.before < d t = rw a.own at i in omega (arith, a.number)

  -- entries after e, before e, and other than e: if they are in now, they were in before
  newer_in : (f : Entry) (k : History) → At e a.before k → In (one_more t d) f k → In d f k
  newer_in f k b = in_before d t f k (λ p q. omega (arith, at_lt t b a.own, a.number))

  older_in : (f : Entry) (k : History) → At f k a.before → In (one_more t d) f k → In d f k
  older_in f k b = in_before d t f k (λ p q. omega (arith, at_lt t b p, a.number))

  is-next : (f : Entry) (k : History) → At f k h → f.task ≡ t → count t k ≡ d t → f ≡ e
  is-next f k b own number = access_unique (record { before = k; at = b; own = own; number = ap suc number }) a

  other_in : (f : Entry) (k : History) → At f k h → (f ≡ e → ⊥) → In (one_more t d) f k → In d f k
  other_in f k b ne = in_before d t f k (λ own number. ne (is-next f k b own number))

  module _ (c : Closed d h) (m : Met d e.orderings) where
    pub closed_advance : Closed (one_more t d) h
    closed_advance = record {
      met = λ {e = f} {g = k} b i. met_mono d (one_more t d) (one_more_rises t d) f.orderings (elim (dec_lt (count f.task k) (d f.task)) [
        | yes j ↦ c.met b j
        | no o ↦
            let (own, number) = comes_in d t f k i o in
            rw (is-next f k b own number) m
      ]);
    }

    module _ {start : ℕ → ℕ} (so : Sound start h) where
      -- a later write of a cell that e touches is not in, because e would then be in too
      later_out : (x : ℕ) → touches x e.act ≡ true → (f : Entry) (k : History) → At f k h → At e a.before k → writes x f.act ≡ true → In d f k → ⊥
      later_out x o f k b b' w i = not_yet (so.comes_after b b' (write-conflicts x f.act e.act w o) c i)

      -- an earlier write of a cell that e touches is in, because closed counts with e need it
      earlier_in : (x : ℕ) → touches x e.act ≡ true → (f : Entry) (k : History) → At f k a.before → writes x f.act ≡ true → In d f k
      earlier_in x o f k b w = older_in f k b (so.comes_after a.at b (conflicts_with_write x e.act f.act o w) closed_advance now_in)

      -- memory after e: its cell holds what it wrote, every other cell is unchanged
      written : (x : ℕ) → writes x e.act ≡ true → memory_of start (one_more t d) h x ≡ value_of e.act
      written x w =
          memory-skip start (one_more t d) x a.at (λ f k b b' w' i. later_out x (writes-touches x e.act w) f k b b' w' (newer_in f k b' i))
          ∙ memory-write start (one_more t d) e a.before x w now_in

      unwritten : (x : ℕ) → writes x e.act ≡ false → memory_of start (one_more t d) h x ≡ memory_of start d h x
      unwritten x w = memory-same start (one_more t d) d x h (λ f k b w'. (
        other_in f k b (λ p. never (writes x e.act) (rw p at w') w),
        λ i. omega (arith, one_more_rises t d f.task),
      ))

      -- a read: no later write of its cell is in, and every earlier one is
      read-value : (x v : ℕ) → e.act ≡ read x v → memory_of start d h x ≡ v
      read-value x v p =
          let o : touches x e.act ≡ true = rw (p, eq-eqb x x refl) in
          memory-skip start d x a.at (later_out x o)
          ∙ memory_keep start d e a.before x (rw p)
          ∙ memory-all start d x a.before (earlier_in x o)
          ∙ sym (so.reads_last x v a.at p)

      -- the same for the replay's memory: what the step leaves in it, and what the step answers
      module _ (memory : ℕ → ℕ) (holds : (x : ℕ) → memory x ≡ memory_of start d h x) where
        pub perform-holds : (x : ℕ) → perform e.act memory x ≡ memory_of start (one_more t d) h x
        perform-holds x = go e.act refl
          where
            go : (b : Act) → e.act ≡ b → perform b memory x ≡ memory_of start (one_more t d) h x
            go (read y v) p = holds x ∙ sym (unwritten x (rw p))
            go (acquire n) p = holds x ∙ sym (unwritten x (rw p))
            go (write y v) p = elim (split (eqb y x)) [
              | passes q ↦ rw q (sym (written x (rw (p, q)) ∙ rw p))
              | fails q ↦ rw q (holds x ∙ sym (unwritten x (rw (p, q))))
            ]

        pub shown-recorded : shown e.act memory ≡ e.act
        shown-recorded = go e.act refl
          where
            go : (b : Act) → e.act ≡ b → shown b memory ≡ b
            go (read y v) p = ap (read y) (holds y ∙ read-value y v p)
            go (write y v) p = refl
            go (acquire n) p = refl
