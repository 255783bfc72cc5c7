-- A graph has the arrays that the label loop reads. Assumes nothing.
use Prim.Native.Nat.{ℕ, ◌+◌}
use native.Mathlib.Omega.{arith}
use mathlib.Core.Path.{◌≡◌, ◌∙◌}
use mathlib.Core.Bool.{Bool}
use mathlib.Core.List.{List}
use lib.ListN.{length}
use Rattle.star.specs.Arcs.{Arcs}
use Rattle.star.specs.Chains.{Chains}
use Rattle.star.specs.Graphs.{tails, next_in, first_in}
use Rattle.star.specs.declared.graph.Graph.{Graph}
use Rattle.labels.specs.Arrays.{Arrays}

-- arcs with their chains fit arrays that have a place for each node, and one more
arrays_of : {n : ℕ} {ts hs ws first next : List ℕ} {bars : List Bool} → Arcs n ts hs ws → Chains hs first next → length first ≡ n + 1 → length bars ≡ n + 1 → Arrays (n + 1) ts ws first next bars
arrays_of arcs c e e' = record {
  weights_long = arcs.weights_long;
  next_long = c.next_long ∙ arcs.heads_long;
  first_long = e;
  barred_long = e';
  few = omega (arith, arcs.few_nodes);
  tail_in = λ i b. omega (arith, arcs.tail_to i b);
  first_in = λ h b. omega (arith, (c.starts h (omega arith)).within, arcs.heads_long);
  next_in = λ i b. (c.goes_on i (omega (arith, arcs.heads_long))).within;
}

pub graph_arrays : (g : Graph) {bars : List Bool} → length bars ≡ g.nodes + 1 → Arrays (g.nodes + 1) (tails g) g.weights.now (first_in g) (next_in g) bars
graph_arrays g e = arrays_of g.holds.arcs g.holds.chains g.holds.ins_long e
