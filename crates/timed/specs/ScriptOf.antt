-- A recording opened, and a script of accesses run on it: a fold of the recorder's `access_of`, starting with an opening. An access is
-- five numbers of the script: task, object, field, sort, value. A rest of fewer than five is ignored.
use Rattle.std.specs.Prelude.{cond, List, ℕ, zero, suc, ◌+◌, ◌*◌, ◌/◌, eqb, length, get_or}
use Rattle.recorder.specs.AccessOf.{AccessOutcome, access_of}
use Rattle.opening.specs.OpenOf.{OpenOutcome, open_of, open_fields_of}
use Rattle.tracker.specs.declared.State.{State}
use Rattle.timed.specs.Digest.{mixed_in, access_word}

-- a script under way: the recorder's state, the lent memory and output, and the digest of the answers
pub record Scripted : Type 0 where
  pub state : State
  pub memory : List ℕ
  pub out : List ℕ
  pub digest : ℕ

abbrev pub opened : OpenOutcome → Scripted
opened o = record { state = o.answer.state; memory = o.memory; out = o.out; digest = 0 }

abbrev pub accessed : ℕ → AccessOutcome → Scripted
accessed digest o = record {
  state = o.answer.state;
  memory = o.memory;
  out = o.out;
  digest = mixed_in digest (access_word o.answer.number o.answer.value o.answer.row o.answer.class o.answer.written);
}

-- access i of a script
abbrev pub access_at : List ℕ → ℕ → Scripted → Scripted
access_at script i x =
    accessed x.digest (access_of x.state (get_or script (5 * i) 0) (get_or script (5 * i + 1) 0) (get_or script (5 * i + 2) 0) (get_or script (5 * i + 3) 0) (get_or script (5 * i + 4) 0) x.memory x.out)

-- the first n accesses
unfoldable pub accesses_to : List ℕ → ℕ → Scripted → Scripted
accesses_to script zero x = x
accesses_to script (suc n) x = access_at script n (accesses_to script n x)

-- the old opening for 0 fields
abbrev pub opening : ℕ → ℕ → ℕ → List ℕ → List ℕ → List ℕ → List ℕ → OpenOutcome
opening tasks objects fields owners starts memory out =
    cond (eqb fields 0) (open_of tasks objects owners starts memory out) (open_fields_of tasks objects fields owners starts memory out)

abbrev pub script_of : ℕ → ℕ → ℕ → List ℕ → List ℕ → List ℕ → List ℕ → List ℕ → Scripted
script_of tasks objects fields owners starts script memory out =
    accesses_to script (length script / 5) (opened (opening tasks objects fields owners starts memory out))
