-- The ready word: bit t is set for each ready task t. The number of ready tasks and the lowest of them follow from the word; the lowest
-- is 16 if none is ready (document 01, "Replay").
use Rattle.std.specs.Prelude.{Bool, true, false, ℕ, zero, suc, ◌+◌, ◌*◌, ◌/◌, ◌%◌, eqb}
use Rattle.codec.specs.Bit.{bit}

-- the word for the n tasks from i on, with i as the lowest bit
unfoldable pub word_of : (ℕ → Bool) → ℕ → ℕ → ℕ
word_of f i zero = 0
word_of f i (suc n) = bit (f i) + 2 * word_of f (suc i) n

-- whether bit t of a word is set
unfoldable pub has_bit : ℕ → ℕ → Bool
has_bit w zero = eqb (w % 2) 1
has_bit w (suc t) = has_bit (w / 2) t

-- how many of the n tasks from i on are ready
unfoldable pub count_of : (ℕ → Bool) → ℕ → ℕ → ℕ
count_of f i zero = 0
count_of f i (suc n) = bit (f i) + count_of f (suc i) n

abbrev pub skip : Bool → ℕ → ℕ
skip true n = 0
skip false n = suc n

-- how many of the n tasks from i on come before the lowest ready one, or k if none is ready
unfoldable pub lowest_in : ℕ → (ℕ → Bool) → ℕ → ℕ → ℕ
lowest_in k f i zero = k
lowest_in zero f i (suc n) = 0
lowest_in (suc k) f i (suc n) = skip (f i) (lowest_in k f (suc i) n)

-- what follows from a word: how many of its 16 bits are set, and the lowest of them
abbrev pub ready_count : ℕ → ℕ
ready_count word = count_of (has_bit word) 0 16

abbrev pub lowest_ready : ℕ → ℕ
lowest_ready word = lowest_in 16 (has_bit word) 0 16
