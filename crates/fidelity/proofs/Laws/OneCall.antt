-- One access on the box, by its number: an accepted one leaves what the table says, a refused one changes nothing.
use Rattle.std.specs.Prelude.{Bool, true, false, cond, ◌≡◌, refl, eqb, length, get_or}
use mathlib.Core.List.{List, [], ◌++◌, append-nil}
use Rattle.std.proofs.Common.{ap, sym, eqb-true, length-set, get_or-set_same, get_or-set_other}
use Rattle.std.proofs.Math.Path.{fun_ext}
use Prim.Native.Nat.{ℕ, ◌<◌}
use Rattle.std.proofs.lemmas.Bool.{eqb-false}
use Rattle.codec.specs.Laws.Decide.{passes, fails, split}
use Rattle.codec.specs.Laws.Store.{store-front}
use Rattle.entries.specs.Recording.{Entry as FileEntry}
use Rattle.entries.specs.Bytes.{entry_bytes}
use Rattle.history.specs.Entry.{Entry}
use Rattle.tracker.specs.declared.State.{State}
use Rattle.tracker.specs.Laws.Accesses.{tracked_entry, memory_after as tracked_memory}
use Rattle.tracker.specs.Next.{state_after}
use Rattle.tracker.specs.Orderings.{written_of}
use Rattle.recorder.specs.AccessOf.{is_write, accepted, refused, value_after, memory_after, written_entry, written_size}
use Rattle.recorder.proofs.Laws.Accepted.{Takes, takes-accepted, number-refused, number-takes, written-length}
use Rattle.recorder.specs.WholeRun.{AccessCall, Box, outcome, called}
use Rattle.fidelity.specs.Box.{accepts, act_of, recorded_entry, cell_by}
use Rattle.fidelity.specs.Filed.{filed}
use Rattle.codec.specs.Cell.{width_of, object_at, field_at}
use Rattle.codec.specs.Laws.Cell.{object_back, field_back}
use Rattle.fidelity.specs.Laws.OneCall.{Turn, file_entry, given_by, history_entry, taken_turn, turned_away}

act-same : (s : State) (task cell : ℕ) (write : Bool) (value : ℕ) (memory : List ℕ)
    → ◌≡◌ {A = Entry} (record { task = task; act = act_of write cell (value_after write cell value memory); orderings = written_of s task cell write })
    (tracked_entry s task cell write value (get_or memory cell 0))
act-same s task cell true value memory = refl
act-same s task cell false value memory = refl

module _ (b : Box) (c : AccessCall) where
  took : Takes b.state c.task c.object c.field c.sort c.value b.memory c.out → accepts b c ≡ true
      → outcome b c ≡ accepted b.state c.task c.object c.field (is_write c.sort) c.value b.memory c.out → Turn b c
  unfolding called accepted
  took k a e = taken_turn k a (rw e)
      (rw e (act-same b.state c.task (cell_by b c) (is_write c.sort) c.value b.memory))
      (simp (e, store-front c.out (entry_bytes (file_entry b c)) (written_size b.state c.task c.object c.field (is_write c.sort)) (written-length b.state c.task c.object c.field (is_write c.sort) (given_by b c)) k.room))

  same-logs : (t : ℕ) → cond (eqb c.task t) (b.logs t ++ []) (b.logs t) ≡ b.logs t
  same-logs t = elim (split (eqb c.task t)) [
    | passes p ↦ rw p (append-nil (b.logs t))
    | fails p ↦ rw p
  ]

  away : (n : ℕ) → accepts b c ≡ false → outcome b c ≡ refused n b.state b.memory c.out → Turn b c
  unfolding called refused
  away n a e = turned_away a (rw e) (rw e (ap (λ (l : ℕ → List ℕ). record { state = b.state; memory = b.memory; logs = l }) (fun_ext same-logs)))

  pub turn : Turn b c
  unfolding outcome
  turn = elim (split (accepts b c)) [
    | passes p ↦ let k = number-takes b.state c.task c.object c.field c.sort c.value b.memory c.out (eqb-true _ _ p) in
        took k p (takes-accepted b.state c.task c.object c.field c.sort c.value b.memory c.out k)
    | fails p ↦ away _ p (number-refused b.state c.task c.object c.field c.sort c.value b.memory c.out (eqb-false _ _ p))
  ]

  -- the entry in the history is the entry in the recording
  pub entry-filed : c.field < width_of b.state.fields → filed b.state.fields (history_entry b c) ≡ file_entry b c
  entry-filed low = go (is_write c.sort)
    where
      o : object_at b.state.fields (cell_by b c) ≡ c.object
      o = object_back b.state.fields c.object c.field low

      f : field_at b.state.fields (cell_by b c) ≡ c.field
      f = field_back b.state.fields c.object c.field low

      go : (write : Bool) → filed b.state.fields (tracked_entry b.state c.task (cell_by b c) write c.value (get_or b.memory (cell_by b c) 0))
          ≡ written_entry b.state c.task c.object c.field write (value_after write (cell_by b c) c.value b.memory)
      go true = rw (o, f)
      go false = rw (o, f)

-- memory by cell, after an access to one of its cells
pub memory-after : (memory : List ℕ) (cell : ℕ) (write : Bool) (value : ℕ) → cell < length memory
    → tracked_memory (λ c. get_or memory c 0) cell write value ≡ (λ c. get_or (memory_after write cell value memory) c 0)
memory-after memory cell false value h = refl
memory-after memory cell true value h = fun_ext (λ c. elim (split (eqb cell c)) [
  | passes p ↦ rw (p, ← eqb-true cell c p) (sym (get_or-set_same memory cell value 0 h))
  | fails p ↦ rw p (sym (get_or-set_other memory cell c value 0 (λ q. eqb-false cell c p (sym q))))
])

pub memory-length : (memory : List ℕ) (cell : ℕ) (write : Bool) (value : ℕ) → length (memory_after write cell value memory) ≡ length memory
memory-length memory cell true value = length-set memory cell value
memory-length memory cell false value = refl
