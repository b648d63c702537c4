-- An accepted opening: facts about its arguments and its result, and what therefore holds after any calls.
use Rattle.std.specs.Prelude.{[], ◌≡◌, ℕ, zero, suc, get_or}
use Rattle.std.proofs.Common.{◌∙◌}
use Rattle.fidelity.specs.Box.{Opening}

-- the starting values by cell
abbrev pub start_of : Opening → ℕ → ℕ
start_of o c = get_or o.starts c 0

-- both openings are one, which takes a least number of fields
abbrev pub least_by : ℕ → ℕ
least_by zero = 0
least_by (suc n) = 1
