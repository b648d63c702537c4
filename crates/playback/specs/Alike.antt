-- Two recordings that are alike (document 01, "Replay": "both finish under lowest ready task first, with equal T, N, step count and final
-- memory"). Order of refusals: the first recording's bytes, the second's, then 3; a refusal leaves both memories as they were. Otherwise
-- both runs are played, and each memory holds what its run ended with; a run that a 19 stopped has not finished, so it is alike to none
-- (document 02, F-3).
use Rattle.std.specs.Prelude.{Ok, Err, Bool, false, cond, ◌&&◌, List, ℕ, eqb, length}
use Rattle.reader.specs.Parse.{Parsed, parse}
use Rattle.codec.specs.Reason.{number_of}
use Rattle.entries.specs.Reading.{Reading}
use Rattle.codec.specs.Number.{entries as wrong_length}
use Rattle.playback.specs.declared.alike.Compared.{Compared}
use Rattle.playback.specs.declared.finish.Played.{Played}
use Rattle.scheduler.specs.Finish.{Play}
use Rattle.playback.specs.Shown.{shown_play}
use Rattle.playback.specs.ToEnd.{play_of}
use lib.Pointwise.{pointwise}
use Rattle.codec.specs.Cell.{cells_of}

-- the answer, and the memories after the call
pub record Comparison : Type 0 where
  pub answer : Compared
  pub first : List ℕ
  pub second : List ℕ

-- equal memories: as many entries, and each equal to the one at its place
abbrev pub same_entries : List ℕ → List ℕ → Bool
same_entries a b = pointwise eqb a b

unfoldable pub alike_of : Played → Played → Bool → Bool
alike_of x y memory =
    x.finished && (y.finished && (eqb x.tasks y.tasks && (eqb x.objects y.objects && (eqb x.steps y.steps && memory))))

abbrev pub refused_compared : ℕ → ℕ → Compared
refused_compared number offset = record { number = number; offset = offset; alike = false }

abbrev pub refusing : ℕ → ℕ → List ℕ → List ℕ → Comparison
refusing number offset m n = record { answer = refused_compared number offset; first = m; second = n }

-- the comparison of two plays, each over its bytes
abbrev pub comparing : List ℕ → List ℕ → Play → Play → Comparison
comparing b c x y = record {
  answer = record { number = 0; offset = 0; alike = alike_of (shown_play b x) (shown_play c y) (same_entries x.memory y.memory) };
  first = x.memory;
  second = y.memory;
}

unfoldable pub compared : List ℕ → List ℕ → List ℕ → List ℕ → Reading Parsed → Reading Parsed → Comparison
compared b c m n (Err d) y = refusing (number_of d.reason) d.offset m n
compared b c m n (Ok p) (Err d) = refusing (number_of d.reason) d.offset m n
compared b c m n (Ok p) (Ok q) =
    cond (eqb (length m) (cells_of p.recording.fields (length p.recording.owners)) && eqb (length n) (cells_of q.recording.fields (length q.recording.owners))) (comparing b c (play_of b m) (play_of c n))
    (refusing wrong_length 0 m n)

unfoldable pub same_outcome_of : List ℕ → List ℕ → List ℕ → List ℕ → Comparison
same_outcome_of b c m n = compared b c m n (parse b) (parse c)
