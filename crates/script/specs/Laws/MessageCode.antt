-- A message as the code writes it into a buffer.
use Rattle.std.specs.Prelude.{◌≡◌, List, ℕ, ◌+◌, ◌≤◌, length}
use Rattle.std.proofs.Common.{arith, eq-eqb, ne_eqb}
use Rattle.text.specs.Appended.{Appended}
use Rattle.text.specs.Laws.Appended.{nothing, joined}
use Rattle.faults.specs.FaultText.{fault_text}
use Rattle.text.specs.Decimal.{decimal_of, field_of}
use Rattle.text.specs.Laws.Decimal.{decimal_short}
use Rattle.script.specs.Message.{line_word, expected_word, refused_word, reason_of, message_of}

-- 20 bytes are room for any number
pub number_room : (n at : ℕ) {room : ℕ} → at + 20 ≤ room → at + length (decimal_of n) ≤ room
number_room n at h = omega (arith, decimal_short n)

pub number_behind : (n : ℕ) {before after : List ℕ} {at end : ℕ} → Appended (decimal_of n) before at after end → end ≤ at + 20
number_behind n x = omega (arith, decimal_short n, x.behind)

pub message-none : (text : List ℕ) (line number : ℕ) (out : List ℕ) → line ≡ 0 → Appended (message_of text line number) out 0 out 0
unfolding message_of
message-none text line number out h = rw (eq-eqb line 0 h) (nothing out 0)

module _ (text : List ℕ) where
  pub message-line : (number : ℕ) {line : ℕ} {before first second after : List ℕ} {a b end : ℕ} → (line ≡ 0 → ⊥)
      → Appended line_word before 0 first a → Appended (decimal_of line) first a second b → Appended (reason_of text line number) second b after end
      → Appended (message_of text line number) before 0 after end
  unfolding message_of
  message-line number {line} h x y z = rw (ne_eqb line 0 h) (joined (joined x y) z)

  module _ (line : ℕ) {number : ℕ} {before mid after : List ℕ} {at place end : ℕ} where
    pub reason_malformed : number ≡ 0 → Appended expected_word before at mid place → Appended (fault_text text line) mid place after end → Appended (reason_of text line number) before at after end
    unfolding reason_of
    reason_malformed h x y = rw (eq-eqb number 0 h) (joined x y)

    pub reason_refused : (number ≡ 0 → ⊥) → Appended refused_word before at mid place → Appended (field_of number 10) mid place after end → Appended (reason_of text line number) before at after end
    unfolding reason_of
    reason_refused h x y = rw (ne_eqb number 0 h) (joined x y)
