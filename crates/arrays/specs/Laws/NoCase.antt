-- A cell below N times F whose case has no meaning makes the state unsound, so every call on it answers 17.
use Rattle.std.specs.Prelude.{false, ◌≡◌, List, ℕ, ◌+◌, ◌<◌, get_or}
use Rattle.std.proofs.Common.{ap, ◌∙◌, arith, ne_eqb}
use Rattle.tracker.specs.declared.CellRecord.{CellRecord}
use Rattle.tracker.specs.declared.Locality.TheVariants.{ReadShared}
use Rattle.codec.specs.Laws.Limit.{within-below}
use Rattle.codec.specs.Cell.{cells_of}
use Rattle.codec.specs.Limit.{max_cells}
use Rattle.tracker.proofs.Laws.Scan.{scan_bad}
use Rattle.tracker.specs.Sound.{cell_sound, sound_of}
use Rattle.tracker.specs.State.{owned}
use Rattle.pending.proofs.Laws.Each.{each_at}
use Rattle.arrays.specs.Halves.{record_of, record_in, state_in}

without_meaning : (case task share : ℕ) → 2 < case → record_of case task share ≡ record { locality = ReadShared 0 }
unfolding record_of
without_meaning case task share h = rw (ne_eqb case 0 (λ e. omega arith), ne_eqb case 1 (λ e. omega arith), ne_eqb case 2 (λ e. omega arith))

pub no_case : (halves words : List ℕ) (i : ℕ) → i < max_cells → i < cells_of (get_or halves 2 0) (get_or halves 1 0) → 2 < get_or halves (37 + i) 0 → sound_of (state_in halves words) ≡ false
unfolding cell_sound
no_case halves words i h n k =
    scan_bad (state_in halves words) i n
    (ap (λ (r : CellRecord). cell_sound r.locality (get_or halves 0 0) (get_or words 0 0)) (each_at (record_in halves words) max_cells i (owned 0) h ∙ without_meaning _ _ _ k)
    ∙ within-below 1 (get_or words 0 0) 0 (omega arith))
