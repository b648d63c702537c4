-- Run A end to end (document 01, "Runs on the bench"): recorded by calls, packed, read back as bytes and played, by computation.
use Rattle.std.specs.Prelude.{◌≡◌, List, [], ◌∷◌, ℕ}
use Rattle.replayer.specs.ReadyOf.{ready_of}
use Rattle.fidelity.specs.Box.{recording_of}
use Rattle.fidelity.specs.Bench.{Bench, bench_of, stepped_all, tally as tally_steps}
use Rattle.fidelity.specs.RunA.{opening, calls, outs, lent}

abbrev bytes : List ℕ
bytes = recording_of opening calls outs

abbrev bench : List ℕ → Bench
bench steps = stepped_all bytes (bench_of bytes lent) steps

pub record Whole : Type 0 where
  pub size : lib.ListN.length bytes ≡ 106
  pub first_word : (ready_of (bench []).run bytes).word ≡ 1
  pub second_word : (ready_of (bench (0 ∷ [])).run bytes).word ≡ 2
  -- task 1 is held up at the start, so its step changes nothing
  pub held : (bench (1 ∷ [])).memory ≡ 0 ∷ 0 ∷ []
  pub end_word : (ready_of (bench (0 ∷ 1 ∷ 0 ∷ 1 ∷ [])).run bytes).word ≡ 0
  pub end_memory : (bench (0 ∷ 1 ∷ 0 ∷ 1 ∷ [])).memory ≡ 9 ∷ 0 ∷ []
  pub end_taken : tally_steps bytes (bench []) (0 ∷ 1 ∷ 0 ∷ 1 ∷ []) ≡ 4
