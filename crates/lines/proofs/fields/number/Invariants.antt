use Rattle.std.proofs.Common.{◌≡◌, drop}
use Rattle.lines.specs.Number.{digits_on, number_of}
use Rattle.lines.proofs.fields.number.Given as goal

abbrev pub invariant-loop-byte : goal.invariant-loop-byte
invariant-loop-byte l = digits_on l.value (drop l.byte-index l.word) ≡ number_of l.word
