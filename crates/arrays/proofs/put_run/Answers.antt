use Rattle.arrays.specs.Laws.PlacesCode.{places_none, places_more, places_all}
use Rattle.arrays.specs.Places.{first_places}
use Rattle.codec.specs.Limit.{max_tasks}
use Rattle.codec.specs.Store.{store}
use native.Mathlib.Omega.{arith}
use Prim.Native.Nat.{◌≤◌, ◌-◌}
use mathlib.Core.Path.{◌≡◌, ◌∙◌}
use Rattle.arrays.proofs.put_run.Goals as goal

pub loop-t-init : goal.loop-t-init
loop-t-init c = (omega arith, places_none _ _)

pub loop-t-preserved : goal.loop-t-preserved
loop-t-preserved c = let l = c.loop-t in (omega arith, rw l.invariant.1 (places_more _ _ l.t))

pub returns : goal.returns
returns c = let l = c.loop-t in let e : l.t ≡ max_tasks = omega arith in rw e at l.invariant.1 ∙ places_all c.args.run c.args.places.now
