-- For every text whose answer is a recording, the recording is that of a whole run, so demand 3 applies to it. One access is recorded for
-- each line that asks for one, and the run leaves the memory that the text's accesses leave.
use Rattle.std.specs.Option.{unwrap_or}
use Rattle.std.specs.Prelude.{Option, Some, None, Bool, false, ◌≡◌, ℕ, ◌+◌, ◌≤◌, eqb, length, drop}
use Rattle.std.proofs.Common.{ap, sym, ◌∙◌, arith}
use Rattle.std.proofs.Math.Path.{subst}
use mathlib.Core.List.{List, [], ◌∷◌}
use borrow.Author.Tests.{eqb-true}
use Rattle.std.proofs.lemmas.List.{length-replicate}
use Rattle.codec.specs.Laws.Decide.{passes, fails, split}
use Rattle.reader.specs.Range.{AllUnder}
use Rattle.reader.specs.Laws.Strict.{below_under}
use Rattle.opening.specs.OpenOf.{OpenOutcome}
use Rattle.faults.specs.Reading.{no_sizes, sizes_in, text_sizes}
use Rattle.lines.specs.declared.rows.Sizes.{Sizes}
use Rattle.lines.specs.AccessLines.{access_lines}
use Rattle.lines.specs.Fields.{fields_of}
use Rattle.lines.specs.Lines.{Line, lines_of, numbered}
use Rattle.script.specs.RecordOf.{Outcome, stop_of, longest_head, starts_of, opening, with_opening, with_owners, with_sizes, range_of, with_first, with_lines, record_of}
use Rattle.lines.specs.Laws.Rows.{values_low}
use Rattle.lines.specs.Rows.{is_row, values_of, sizes_of, has_fields, owners_of}
use Rattle.programs.specs.Laws.Numbered.{Numbered, numbered-from}
use Rattle.programs.specs.WholeRecording.{WholeRecording}
use Rattle.programs.specs.Laws.Sized.{opened_in, sized_open}
use Rattle.programs.specs.Laws.WholeRecording.{whole-recording}

-- an outcome that no line stopped is a whole run with the accesses of these lines
abbrev Whole : Outcome → Bool → List Line → Type 0
Whole o named lines = o.line ≡ 0 → WholeRecording o.bytes o.memory named lines

stop-none : (line number : ℕ) (named : Bool) (lines : List Line) → 1 ≤ line → Whole (stop_of line number) named lines
stop-none line number named lines h e = absurd (let z : ⊥ = omega arith in z)

module _ (z : Sizes) where
  opening-whole : (line : ℕ) (owners starts : List ℕ) (ls : List Line) → AllUnder 4294967296 starts → 1 ≤ line → Numbered ls
      → Whole (with_opening z.tasks line (opening z owners starts) ls) (has_fields z) ls
  unfolding with_opening
  opening-whole line owners starts ls under k n e = elim (split (eqb (opening z owners starts).answer.number 0)) [
    | fails p ↦ rw p (stop-none line (opening z owners starts).answer.number (has_fields z) ls k (rw p at e))
    | passes p ↦
        let o = opened_in z owners starts under in
        let s = sized_open z owners starts under (eqb-true _ _ p) in
        let made : OpenOutcome → Outcome = λ x. with_opening z.tasks line x ls in
        subst (λ (x : OpenOutcome). WholeRecording (made x).bytes (made x).memory (has_fields z) ls) s.0
        (rw s.1 at (whole-recording o (ap (λ (x : OpenOutcome). x.answer.number) s.0 ∙ eqb-true _ _ p) (length-replicate {A = ℕ} longest_head 0) line ls n
        (subst (λ (x : OpenOutcome). (made x).line ≡ 0) (sym s.0) e)))
  ]

  owners-whole : (missing line : ℕ) (owners : List ℕ) (ls : List Line) → 1 ≤ missing → 1 ≤ line → Numbered ls
      → Whole (with_owners missing z line owners ls) (has_fields z) (drop 1 ls)
  unfolding with_owners Numbered
  owners-whole missing line owners [] h k n e = stop-none missing 0 (has_fields z) [] h e
  owners-whole missing line owners (l ∷ ls) h k n e = elim (split (is_row (starts_of z) (fields_of l.bytes))) [
    | fails p ↦ rw p (stop-none l.number 0 (has_fields z) ls n.0 (rw p at e))
    | passes p ↦ rw p (opening-whole line owners (values_of (fields_of l.bytes)) ls (below_under _ _ (values_low l.bytes)) k n.1 (rw p at e))
  ]

  sizes_whole : (missing : ℕ) (ls : List Line) → 1 ≤ missing → Numbered ls → Whole (with_sizes missing z ls) (has_fields z) (drop 2 ls)
  unfolding with_sizes Numbered
  sizes_whole missing [] h n e = stop-none missing 0 (has_fields z) [] h e
  sizes_whole missing (l ∷ ls) h n e = elim (split (is_row z.objects (fields_of l.bytes))) [
    | fails p ↦ rw p (stop-none l.number 0 (has_fields z) (drop 1 ls) n.0 (rw p at e))
    | passes p ↦ rw p (owners-whole missing l.number (owners_of (fields_of l.bytes)) ls h n.0 n.1 (rw p at e))
  ]

-- by whether the first line is well formed, and whether T, N and F are in range
first-whole : (first : Option Sizes) (missing line : ℕ) (ls : List Line) → 1 ≤ missing → 1 ≤ line → Numbered ls
    → Whole (with_first missing line first ls) (has_fields (unwrap_or first no_sizes)) (drop 2 ls)
unfolding with_first
first-whole None missing line ls h k n e = stop-none line 0 false (drop 2 ls) k e
first-whole (Some z) missing line ls h k n e = elim (split (eqb (range_of z) 3)) [
  | fails p ↦ rw p (stop-none line (range_of z) (has_fields z) (drop 2 ls) k (rw p at e))
  | passes p ↦ rw p (sizes_whole z missing ls h n (rw p at e))
]

lines-whole : (missing : ℕ) (ls : List Line) → 1 ≤ missing → Numbered ls → Whole (with_lines missing ls) (has_fields (sizes_in ls)) (drop 3 ls)
unfolding with_lines Numbered sizes_in
lines-whole missing [] h n e = stop-none missing 0 false [] h e
lines-whole missing (l ∷ ls) h n e = first-whole (sizes_of (fields_of l.bytes)) missing l.number ls h n.0 n.1 e

pub whole-text : (text : List ℕ) → (record_of text).line ≡ 0 → WholeRecording (record_of text).bytes (record_of text).memory (has_fields (text_sizes text)) (access_lines text)
whole-text text e = lines-whole (1 + length (lines_of text)) (numbered 1 (lines_of text)) (omega arith) (numbered-from 1 (lines_of text) (omega arith)) e
