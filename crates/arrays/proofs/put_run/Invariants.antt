use Rattle.arrays.specs.Laws.PlacesCode.{places_none, places_more, places_all}
use Rattle.arrays.specs.Places.{first_places}
use Rattle.codec.specs.Limit.{max_tasks}
use Rattle.codec.specs.Store.{store}
use native.Mathlib.Omega.{arith}
use Prim.Native.Nat.{◌≤◌, ◌-◌}
use mathlib.Core.Path.{◌≡◌, ◌∙◌}
use Rattle.arrays.proofs.put_run.Given as goal

abbrev pub invariant-loop-t : goal.invariant-loop-t
invariant-loop-t l = (l.t ≤ max_tasks) × (l.places ≡ store l.initial.places 3 (first_places l.run.runs l.t))

abbrev pub decreases-loop-t : goal.decreases-loop-t
decreases-loop-t l = max_tasks - l.t
