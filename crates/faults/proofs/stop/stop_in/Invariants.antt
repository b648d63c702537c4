use Rattle.std.proofs.Common.{◌≡◌, ◌+◌, ◌≤◌, length}
use Rattle.lines.specs.Words.{words_in}
use Rattle.faults.specs.Stop.{stop_of}
use Rattle.faults.proofs.stop.stop_in.Given as goal

abbrev pub invariant-loop-word : goal.invariant-loop-word
invariant-loop-word l = record {
  few : l.words + length l.rest ≤ length l.line;
  same : stop_of l.named l.expected l.words (words_in l.rest) ≡ stop_of l.named l.initial.expected 0 (words_in l.line);
}

abbrev pub decreases-loop-word : goal.decreases-loop-word
decreases-loop-word l = length l.rest
