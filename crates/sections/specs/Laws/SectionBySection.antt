-- The section writer called for one task after another, each with the rest of the output after the one before.
use Rattle.std.specs.Prelude.{Bool, true, ◌&&◌, List, [], ◌∷◌, ◌++◌, ℕ, suc, ◌+◌, eqb, take, drop}
use Rattle.tracker.specs.declared.State.{State}
use Rattle.sections.specs.SectionOf.{SectionOutcome, section_of}

-- whether all sections are accepted, the bytes written, and the output
pub record Joined : Type 0 where
  pub accepted : Bool
  pub written : ℕ
  pub out : List ℕ

-- the output after a section
abbrev pub behind : SectionOutcome → List ℕ
behind o = drop o.answer.written o.out

abbrev pub joined : SectionOutcome → Joined → Joined
joined o rest = record {
  accepted = eqb o.answer.number 0 && rest.accepted;
  written = o.answer.written + rest.written;
  out = take o.answer.written o.out ++ rest.out;
}

-- the logs are those of the tasks from `task` on
unfoldable pub section_by_section : State → ℕ → List (List ℕ) → List ℕ → Joined
section_by_section s task [] out = record { accepted = true; written = 0; out = out }
section_by_section s task (log ∷ logs) out =
    joined (section_of s task log out) (section_by_section s (suc task) logs (behind (section_of s task log out)))
