-- Met orderings (document 01, "Whole runs": "(S, s) is met once S has done s or more").
use Rattle.std.specs.Prelude.{Bool, true, ◌&&◌, List, [], ◌∷◌, leb}
use Rattle.codec.specs.declared.Position.{Position}
use Rattle.pending.specs.declared.TaskRun.{TaskRun}
use Rattle.pending.specs.Run.{done_of}

unfoldable pub all_met : List TaskRun → List Position → Bool
all_met runs [] = true
all_met runs (p ∷ ps) = leb p.number (done_of runs p.task) && all_met runs ps
