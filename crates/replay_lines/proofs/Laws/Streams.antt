-- Buffers that are long enough get both texts, others nothing.
use Rattle.std.specs.Prelude.{◌≡◌, ℕ, ◌≤◌, ◌<◌}
use borrow.Author.Tests.{lt-ltb, le-ltb}
use Rattle.replay_lines.specs.Streams.{Streams, silent, streams_within}

module _ (most why_most room why_room : ℕ) (s : Streams) where
  pub within-short : room < most → streams_within most why_most room why_room s ≡ silent
  unfolding streams_within
  within-short h = rw (lt-ltb room most h)

  pub within-short_why : most ≤ room → why_room < why_most → streams_within most why_most room why_room s ≡ silent
  unfolding streams_within
  within-short_why h k = rw (le-ltb room most h, lt-ltb why_room why_most k)

  pub within_room : most ≤ room → why_most ≤ why_room → streams_within most why_most room why_room s ≡ s
  unfolding streams_within
  within_room h k = rw (le-ltb room most h, le-ltb why_room why_most k)
