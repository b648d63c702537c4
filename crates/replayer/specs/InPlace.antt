-- A step in place (document 01, "Replay": "a step that moves the lent run on in place, with equal results"): it answers what the step by
-- value answers except the run, which stays where it was lent.
use Rattle.replayer.specs.declared.Stepped.{Stepped}
use Rattle.replayer.specs.declared.in_place.Step.{Step}

abbrev pub shown_of : Stepped → Step
shown_of s = record { number = s.number; offset = s.offset; kind = s.kind; object = s.object; field = s.field; value = s.value; access = s.access }
