-- The lines of a recording as a value, with the offsets added up. For its bytes the walk gives the same (`Laws/Complete.all_shown`).
use Rattle.std.specs.Prelude.{List, [], ◌∷◌, ◌++◌, ℕ, suc, ◌+◌, ◌*◌, length}
use Rattle.codec.specs.declared.Position.{Position}
use Rattle.codec.specs.Head.{head_length}
use Rattle.codec.specs.Kind.{section_kind, ordering_kind, length_of}
use Rattle.entries.specs.Bytes.{entry_length, body_bytes}
use Rattle.entries.specs.Recording.{Entry, Recording}
use Rattle.record_lines.specs.RecordLines.{head_line, section_line, ordering_line, access_line}

unfoldable pub orderings_lines : ℕ → ℕ → List Position → List ℕ
orderings_lines at own [] = []
orderings_lines at own (q ∷ qs) = ordering_line at own q ++ orderings_lines (at + length_of ordering_kind) own qs

-- the orderings before an access, and the access
unfoldable pub entry_lines : ℕ → ℕ → ℕ → Entry → List ℕ
entry_lines at own number e =
    orderings_lines at own e.orderings ++ access_line (at + length_of ordering_kind * length e.orderings) own number e.op

unfoldable pub body_lines : ℕ → ℕ → ℕ → List Entry → List ℕ
body_lines at own number [] = []
body_lines at own number (e ∷ es) = entry_lines at own number e ++ body_lines (at + entry_length e) own (number + 1) es

-- the sections of the tasks from t upward
unfoldable pub sections_lines : ℕ → ℕ → List (List Entry) → List ℕ
sections_lines at t [] = []
sections_lines at t (es ∷ bodies) =
    section_line at t (length es) (length (body_bytes es)) ++ body_lines (at + length_of section_kind) t 1 es
    ++ sections_lines (at + length_of section_kind + length (body_bytes es)) (suc t) bodies

unfoldable pub recording_lines : Recording → List ℕ
recording_lines r =
    head_line 0 r.tasks (length r.owners) r.fields ++ sections_lines (head_length r.fields (length r.owners)) 0 r.bodies
