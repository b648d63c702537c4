-- An accepted opening: facts about its arguments and its result, and what therefore holds after any calls.
use Rattle.std.specs.Prelude.{List, [], ◌≡◌, refl, ℕ, zero, suc, eqb, length, get_or}
use Rattle.std.proofs.Common.{◌∙◌, arith}
use borrow.Author.Tests.{eqb-true}
use Rattle.codec.specs.Laws.Decide.{passes, fails, split}
use Rattle.codec.specs.Encode.{head}
use Rattle.codec.specs.Head.{head_length}
use Rattle.codec.specs.Store.{store}
use Rattle.entries.specs.Bytes.{body_bytes}
use Rattle.reader.specs.Range.{AllUnder}
use Rattle.history.proofs.Laws.History.{at-nil}
use Rattle.tracker.specs.Opened.{opened_state}
use Rattle.tracker.specs.Laws.Opened.{Opens}
use Rattle.tracker.proofs.Laws.Opened.{opened-fresh}
use Rattle.tracker.specs.Laws.Tracks.{tracks_opened}
use Rattle.opening.specs.OpenOf.{open_number, opened, open_by}
use Rattle.opening.specs.Laws.OpenCode.{OpenFacts, open_facts, open_accepted}
use Rattle.fidelity.specs.Box.{Opening, opened_by, Asked, first_box, last_box, recorded, opening}
use Rattle.fidelity.specs.Filed.{filed_of}
use Rattle.reader.specs.Laws.Range.{under_at}
use Rattle.reader.specs.Laws.Strict.{below_under}
use Rattle.fidelity.specs.Laws.Follows.{Follows}
use Rattle.fidelity.proofs.Laws.Follows.{follows_all}
use Rattle.fidelity.specs.Laws.FirstBox.{least_by, start_of}

opening_by : (f : ℕ) (o : Opening) → opening f o ≡ open_by (least_by f) f o.tasks o.objects o.owners o.starts o.memory o.out
opening_by zero o = refl
opening_by (suc n) o = refl

module _ (o : Opening) (accepted : (opened_by o).answer.number ≡ 0) where
  abbrev number : ℕ
  number = open_number (least_by o.fields) o.fields o.tasks o.objects o.owners (length o.starts) (length o.memory) (length o.out)

  number_zero : number ≡ 0
  unfolding open_by opened
  number_zero = elim (split (eqb number 0)) [
    | passes p ↦ eqb-true _ _ p
    | fails p ↦ rw (opening_by o.fields o, p) at accepted
  ]

  pub opening_facts : OpenFacts (least_by o.fields) o.fields o.tasks o.objects o.owners (length o.starts) (length o.memory) (length o.out)
  opening_facts = open_facts (least_by o.fields) o.fields o.tasks o.objects o.owners (length o.starts) (length o.memory) (length o.out) number_zero

  pub owners_under : AllUnder o.tasks o.owners
  owners_under = below_under o.tasks o.owners opening_facts.each_owner_below

  pub opening-is : opened_by o ≡ record {
    answer = record { number = 0; written = head_length o.fields o.objects; state = opened_state o.tasks o.objects o.fields o.owners };
    memory = o.starts;
    out = store o.out 0 (head o.fields o.tasks o.owners o.starts);
  }
  opening-is =
      opening_by o.fields o
      ∙ open_accepted (least_by o.fields) o.fields o.tasks o.objects o.owners o.starts o.memory o.out _ refl number_zero

  opens : Opens o.tasks o.objects o.fields o.owners
  opens = record {
    some_task = opening_facts.some_tasks;
    tasks_fit = opening_facts.few_tasks;
    some_object = opening_facts.some_objects;
    objects_fit = opening_facts.few_objects;
    fields_fit = opening_facts.few_fields;
    owners_low = λ c h. under_at o.tasks o.owners c opening_facts.some_tasks owners_under;
  }

  follows_opened : Follows (start_of o) o.tasks o.objects o.fields (record { state = opened_state o.tasks o.objects o.fields o.owners; memory = o.starts; logs = λ t. [] }) []
  unfolding opened_state filed_of body_bytes
  follows_opened = record {
    tracks = tracks_opened (opened-fresh o.tasks o.objects o.fields o.owners opens);
    tasks_are = refl;
    objects_are = refl;
    fields_are = refl;
    memory_each = opening_facts.start_each;
    values = λ c. under_at 4294967296 o.starts c (omega arith) o.fits;
    logs = λ t. refl;
    small = λ t. omega arith;
    entries = λ t. tt;
    recordable = λ a. absurd (at-nil a);
  }

  pub follows_last : (asked : List Asked) → Follows (start_of o) o.tasks o.objects o.fields (last_box o asked) (recorded o asked)
  follows_last asked = follows_all (first_box o) [] asked (rw opening-is follows_opened)
