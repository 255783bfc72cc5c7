-- `search::search` takes node after node. The loop: nodes have the places that they had, and the nodes that can still be taken fall. Assumes nothing.
use mathlib.Core.Path.{◌≡◌}
use Prim.Native.Nat.{◌-◌}
use lib.ListN.{length}
use Rattle.sharpening.proofs.search.search.Given as goal

abbrev pub invariant-loop-at : goal.invariant-loop-at
invariant-loop-at l = l.front.places ≡ l.initial.front.places

abbrev pub decreases-loop-at : goal.decreases-loop-at
decreases-loop-at l = 201 - length l.front.taken
