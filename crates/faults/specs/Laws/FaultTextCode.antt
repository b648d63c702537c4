-- The text of a fault as the code writes it into a buffer.
use Rattle.std.specs.Prelude.{◌≡◌, List, [], true, false, ℕ, ◌<◌, length}
use Rattle.std.proofs.Common.{arith, ne_eqb}
use Rattle.faults.specs.declared.kind.Kind.{Kind}
use Rattle.faults.specs.FaultText.{wrong_text, end_text, stop_text, missing_text, line_text, reading_text, fault_text}
use Rattle.faults.specs.Reading.{reading_of, text_sizes}
use Rattle.faults.specs.Stop.{Stop}

-- the reading of a line stopped at its end or at a word
module _ (kind : Kind) (n : ℕ) (s : Stop) where
  pub text_ended : s.word ≡ [] → end_text kind n s.expected s.words ≡ stop_text kind n s
  unfolding stop_text
  text_ended h = rw h

  pub text_wrong : 0 < length s.word → wrong_text s.expected s.word ≡ stop_text kind n s
  unfolding stop_text
  text_wrong h = rw (ne_eqb (length s.word) 0 (λ z. omega arith))

-- a line that the text has, and a missing line
module _ (text : List ℕ) (line : ℕ) where
  pub text_missing : (reading_of text line).there ≡ false → missing_text (reading_of text line).kind ≡ fault_text text line
  unfolding reading_text
  text_missing h = rw h

  pub text_there : (reading_of text line).there ≡ true → line_text (text_sizes text) (reading_of text line).kind (reading_of text line).bytes ≡ fault_text text line
  unfolding reading_text
  text_there h = rw h
