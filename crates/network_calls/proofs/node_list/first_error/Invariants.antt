-- `node_list::first_error` stops at the first error. The outer loop: each node before position at goes on, and the last of them is a node of the graph; the inner one: none of the nodes before position before is the node at it. Assumes nothing.
use Prim.Native.Nat.{ℕ, ◌-◌, ◌≤◌, ◌<◌}
use mathlib.Core.Path.{◌≡◌}
use lib.ListN.{length, get_or}
use Rattle.star.specs.Graphs.{tails, heads}
use Rattle.network_calls.specs.NodeLists.{GoesOn}
use Rattle.network_calls.proofs.node_list.first_error.Given as goal

abbrev pub invariant-loop-before : goal.invariant-loop-before
invariant-loop-before l = (l.before ≤ l.at) × ((j : ℕ) → j < l.before → get_or l.nodes j 0 ≡ get_or l.nodes l.at 0 → ⊥)

abbrev pub invariant-loop-at : goal.invariant-loop-at
invariant-loop-at l = (1 ≤ l.at) × (l.at ≤ length l.nodes) × (get_or l.nodes (l.at - 1) 0 ≤ l.graph.nodes) × ((i : ℕ) → i < l.at → 1 ≤ i → GoesOn (tails l.graph) (heads l.graph) l.nodes i)
