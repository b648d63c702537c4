use mathlib.Core.Path.{◌≡◌}
use Prim.Native.Nat.{◌≤◌}
use lib.ListN.{length, drop}
use Rattle.reader.specs.Parse.{all_below}
use Rattle.opening.proofs.owners_below.Given as goal

abbrev pub invariant-loop-owner : goal.invariant-loop-owner
invariant-loop-owner l = (l.owner-index ≤ length l.owners) × (all_below l.tasks (drop l.owner-index l.owners) ≡ all_below l.tasks l.owners)
