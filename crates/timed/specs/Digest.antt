-- The digest of a list of answers: one number that every answer goes into, so that no call can be left out.
use Rattle.std.specs.Prelude.{ℕ, ◌+◌, ◌*◌, ◌%◌}

-- the lowest 58 bits of the digest times 31, which loses none of them, plus the next answer
abbrev pub mixed_in : ℕ → ℕ → ℕ
mixed_in digest x = 31 * (digest % 288230376151711744) + x

-- an access's answer as a number below 2^58
abbrev pub access_word : ℕ → ℕ → ℕ → ℕ → ℕ → ℕ
access_word number value row class written = value + 4294967296 * (row + 16 * class + 8192 * (number % 32) + 262144 * (written % 256))

-- a step's answer, with the task it named
abbrev pub step_word : ℕ → ℕ → ℕ → ℕ → ℕ → ℕ → ℕ
step_word task kind object field value access =
    value + 4294967296 * (task % 16 + 16 * (kind % 16) + 256 * (object % 256) + 65536 * (field % 8) + 524288 * (access % 128))
