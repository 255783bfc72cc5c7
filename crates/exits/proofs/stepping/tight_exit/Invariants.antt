-- `stepping::tight_exit` stops at the first arc that keeps to the label; heads rise, so that it goes to the smallest node. The loop: no arc passed keeps to it.
-- Assumes nothing.
use Prim.Native.Nat.{ℕ, ◌≤◌, ◌<◌}
use lib.ListN.{get_or}
use Rattle.star.specs.Graphs.{heads, out_start}
use Rattle.exits.specs.Exits.{Keeps}
use Rattle.exits.proofs.stepping.tight_exit.Given as goal

abbrev pub invariant-loop-i : goal.invariant-loop-i
invariant-loop-i l = (j : ℕ) → out_start l.graph l.x ≤ j → j < l.i → Keeps l.labels l.used (get_or (heads l.graph) j 0) (get_or l.graph.weights.now j 0) (get_or l.labels l.x 0) → ⊥
