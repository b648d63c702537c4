use Rattle.std.proofs.Common.{◌+◌, ◌≤◌, length}
use Rattle.lines.specs.Laws.FieldsCode.{Reads}
use Rattle.lines.proofs.fields.fields_in.Given as goal

abbrev pub invariant-loop-word : goal.invariant-loop-word
invariant-loop-word l = record { few : l.count + length l.rest ≤ length l.line; reads : Reads l.line l.initial.out l.rest l.count l.out }

abbrev pub decreases-loop-word : goal.decreases-loop-word
decreases-loop-word l = length l.rest
