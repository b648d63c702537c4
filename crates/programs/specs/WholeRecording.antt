-- The recording of a whole run (document 01, "Whole runs") in which everything was accepted: demand 3 holds for it by `fidelity`'s
-- theorem.
use Rattle.std.specs.Prelude.{Bool, ◌≡◌, List, map, ℕ, ◌+◌, ◌≤◌, length, replicate}
use Rattle.recorder.specs.WholeRun.{Box}
use Rattle.fidelity.specs.Box.{Opening, Asked, last_box, recorded, recording_of, cells_by}
use Rattle.fidelity.specs.Statement.{Accepted}
use Rattle.lines.specs.Lines.{Line}
use Rattle.logs.specs.Session.{most}
use Rattle.programs.specs.Wanted.{wanted_in, wanted_by}

-- an output for each section, exactly as long as needed
abbrev pub outs_of : Box → ℕ → List ℕ
outs_of b t = replicate (12 + length (b.logs t)) 0

-- the bytes are the recording of a whole run with everything accepted: its calls ask for what these lines want, which name a field or not,
-- one access is recorded for each, and they leave this memory
pub record WholeRecording (bytes memory : List ℕ) (named : Bool) (lines : List Line) : Type 0 where
  pub opening : Opening
  pub asked : List Asked
  pub is : bytes ≡ recording_of opening asked (outs_of (last_box opening asked))
  pub accepted : (lent : List ℕ) → length lent ≡ cells_by opening → Accepted opening asked (outs_of (last_box opening asked)) lent
  pub asks : map wanted_by asked ≡ map (wanted_in named) lines
  pub counted : length (recorded opening asked) ≡ length lines
  pub left : (last_box opening asked).memory ≡ memory
  pub short : length bytes ≤ most
