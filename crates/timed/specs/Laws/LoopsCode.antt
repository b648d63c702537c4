-- Laws for the loops of a script and of a replay.
use Rattle.std.specs.Prelude.{◌≡◌, List, get_or}
use Prim.Native.Nat.{ℕ, suc, ◌+◌, ◌*◌, ◌-◌, ◌<◌, ◌≤◌}
use Rattle.std.proofs.Common.{add-one}
use native.Mathlib.Omega.{arith}
use borrow.Author.Tests.{eq-eqb, ne_eqb}
use Rattle.recorder.specs.declared.Accessed.{Accessed}
use Rattle.recorder.specs.AccessOf.{access_of}
use Rattle.replayer.specs.declared.ReadyWord.{ReadyWord}
use Rattle.replayer.specs.declared.Stepped.{Stepped}
use Rattle.replayer.specs.ReadyOf.{ready_of}
use Rattle.replayer.specs.StepOf.{step_of}
use Rattle.replayer.proofs.Laws.StepOf.{undone_stays}
use Rattle.replayer.specs.Word.{lowest_ready}
use Rattle.timed.specs.Digest.{mixed_in, access_word, step_word}
use Rattle.timed.specs.ReplayOf.{Replayed, task_next, access_next, step_at, steps_in}
use Rattle.timed.specs.ScriptOf.{Scripted, access_at, accesses_to}

pub access-more : (script : List ℕ) (n : ℕ) (x y : Scripted) → y ≡ accesses_to script n x → access_at script n y ≡ accesses_to script (n + 1) x
unfolding accesses_to
access-more script n x y e = rw (e, add-one n)

module _ (b : List ℕ) (x : Replayed) (size i : ℕ) where
  pub steps_over : size ≤ i → steps_in (size - i) b x ≡ x
  unfolding steps_in
  steps_over h = let e : size - i ≡ 0 = omega arith in rw e

  module _ (h : i < size) where
    pub steps-stop : access_next b x ≡ 0 → steps_in (size - i) b x ≡ x
    unfolding steps_in
    steps-stop k = let e : size - i ≡ suc (size - (i + 1)) = omega arith in rw (e, eq-eqb (access_next b x) 0 k)

    pub steps-more : (access_next b x ≡ 0 → ⊥) → steps_in (size - (i + 1)) b (step_at b x) ≡ steps_in (size - i) b x
    unfolding steps_in
    steps-more k = let e : size - i ≡ suc (size - (i + 1)) = omega arith in rw (e, ne_eqb (access_next b x) 0 k)

-- the access of the answer, and the memory if the step is not taken
pub step-access : (b : List ℕ) (x : Replayed) (ready : ReadyWord) (task : ℕ) (a : Stepped) → ready ≡ ready_of x.run b → task ≡ lowest_ready ready.word
    → a ≡ (step_of x.run b x.memory task).answer → a.access ≡ access_next b x
step-access b x ready task a e t p = rw (p, t, e)

pub step_kept : (b : List ℕ) (x : Replayed) (ready : ReadyWord) (task : ℕ) (memory : List ℕ) → ready ≡ ready_of x.run b → task ≡ lowest_ready ready.word
    → memory ≡ (step_of x.run b x.memory task).memory → access_next b x ≡ 0 → memory ≡ x.memory
step_kept b x ready task memory e t q k = rw (q, t, e) (undone_stays x.run b x.memory (task_next b x) k).after

-- one pass of the script's loop, and of the replay's, as the code does it
pub access_turn : (script : List ℕ) (i : ℕ) (start y : Scripted) (task object field : ℕ) (a : Accessed) (memory out : List ℕ) (word digest : ℕ) →
    let o = access_of y.state task object field (get_or script (5 * i + 3) 0) (get_or script (5 * i + 4) 0) y.memory y.out in
    y ≡ accesses_to script i start → task ≡ get_or script (5 * i) 0 → object ≡ get_or script (5 * i + 1) 0 → field ≡ get_or script (5 * i + 2) 0
    → a ≡ o.answer → memory ≡ o.memory → out ≡ o.out
    → word ≡ access_word a.number a.value a.row a.class a.written → digest ≡ mixed_in y.digest word
    → ◌≡◌ {A = Scripted} (record { state = a.state; memory = memory; out = out; digest = digest }) (accesses_to script (i + 1) start)
access_turn script i start y task object field a memory out word digest e t u v p q r w d = rw (d, w, q, r, p, t, u, v) (access-more script i start y e)

pub step_turn : (b : List ℕ) (x : Replayed) (ready : ReadyWord) (task : ℕ) (a : Stepped) (memory : List ℕ) (word digest : ℕ) →
    let o = step_of x.run b x.memory task in
    ready ≡ ready_of x.run b → task ≡ lowest_ready ready.word → a ≡ o.answer → memory ≡ o.memory
    → word ≡ step_word task a.kind a.object a.field a.value a.access → digest ≡ mixed_in x.digest word
    → record { run = a.run; memory = memory; digest = digest } ≡ step_at b x
step_turn b x ready task a memory word digest e t p q w d = rw (d, w, q, p, t, e)
