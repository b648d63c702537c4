use Rattle.std.proofs.Common.{◌≡◌, ℕ, ◌≤◌}
use Rattle.std.specs.Prelude.{true}
use Rattle.tracker.proofs.Laws.Scan.{sound_to}
use Rattle.transitions.proofs.sound.sound.Given as goal

abbrev pub invariant-loop-record : goal.invariant-loop-record
invariant-loop-record l = (l.record-index ≤ l.cells) × (sound_to l.state l.record-index ≡ true)
