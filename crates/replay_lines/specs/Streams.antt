-- What a program writes for a recording, on both streams.
use Rattle.std.specs.Prelude.{cond, List, [], ℕ, ltb}

-- the text for standard output, the reasons for standard error
pub record Streams : Type 0 where
  pub text : List ℕ
  pub reasons : List ℕ

abbrev pub silent : Streams
silent = record { text = []; reasons = [] }

-- what is written into buffers of some lengths: nothing if one is shorter than the longest it may have to hold
unfoldable pub streams_within : (most why_most room why_room : ℕ) → Streams → Streams
streams_within most why_most room why_room s = cond (ltb room most) silent (cond (ltb why_room why_most) silent s)
