-- How long a recording may be that a program takes (document 01, "The replay program"), and how many accesses it can then have.
use Rattle.std.specs.Prelude.{ℕ}

abbrev pub longest : ℕ
longest = 65536

-- an access has a record of at least 6 bytes
abbrev pub most_steps : ℕ
most_steps = 10922
