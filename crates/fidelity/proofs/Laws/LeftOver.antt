-- The accesses a task has left after it has done some of them, in the form of the recording, oldest first.
use Rattle.std.specs.Prelude.{cond, List, [], ◌∷◌, ◌++◌, ◌≡◌, refl, ℕ, suc, ◌≤◌, eqb, leb}
use Rattle.std.proofs.Math.Option.{some}
use Rattle.std.proofs.Common.{arith, eq-eqb, ne_eqb, le-leb}
use Rattle.std.proofs.Math.Decide.{ℕ_discrete}
use Rattle.std.proofs.lemmas.Bool.{lt-leb}
use Rattle.codec.specs.Laws.Decide.{passes, fails, split}
use Rattle.entries.specs.Recording.{Entry as FileEntry}
use Rattle.history.specs.Entry.{Entry}
use Rattle.history.specs.History.{History, count, At, here, there}
use Rattle.history.proofs.Laws.History.{count-own, count-other, at_lt}
use Rattle.history.specs.Replay.{next}
use Rattle.history.proofs.Laws.Ready.{next-access}
use Rattle.fidelity.specs.Filed.{filed, filed_of}
use Rattle.fidelity.specs.Laws.LeftOver.{left_of}

-- at the start all of them
pub left-all : (fields t : ℕ) (h : History) → left_of fields t 0 h ≡ filed_of fields t h
unfolding left_of filed_of
left-all fields t [] = refl
left-all fields t (e ∷ g) = elim (split (eqb e.task t)) [
  | passes p ↦ rw (p, le-leb 0 (count t g) (omega arith), left-all fields t g)
  | fails p ↦ rw (p, left-all fields t g)
]

left_end : (fields t n : ℕ) (h : History) → count t h ≤ n → left_of fields t n h ≡ []
unfolding left_of
left_end fields t n [] q = refl
left_end fields t n (e ∷ g) q = elim (ℕ_discrete e.task t) [
  | yes p ↦ let c = count-own t e g p in rw (eq-eqb e.task t p, lt-leb n (count t g) (omega arith))
  | no p ↦ rw (ne_eqb e.task t p) (left_end fields t n g (omega (arith, count-other t e g p)))
]

left_at : (fields t n : ℕ) {e : Entry} {g : History} {h : History} → At e g h → e.task ≡ t → count t g ≡ n → left_of fields t n h ≡ filed fields e ∷ left_of fields t (suc n) h
unfolding left_of
left_at fields t n {e = e} {g = g} here p q =
    rw (eq-eqb e.task t p, le-leb n (count t g) (omega arith), lt-leb (suc n) (count t g) (omega arith), left_end fields t n g (omega arith))
left_at fields t n {e = e} (there {f = f} {h = h} a) p q = elim (ℕ_discrete f.task t) [
  | yes z ↦
      let l = at_lt t a p in
      rw (eq-eqb f.task t z, le-leb n (count t h) (omega arith), le-leb (suc n) (count t h) (omega arith), left_at fields t n a p q)
  | no z ↦ rw (ne_eqb f.task t z) (left_at fields t n a p q)
]

-- the first one left is the next one
pub left-next : (fields t n : ℕ) (h : History) (e : Entry) → next t n h ≡ some e → left_of fields t n h ≡ filed fields e ∷ left_of fields t (suc n) h
left-next fields t n h e p = let a = next-access t n h e p in left_at fields t n a.at a.own (omega (arith, a.number))
