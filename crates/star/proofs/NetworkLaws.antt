-- What a graph in two slices gives to the functions that read it: places for every index. Assumes nothing.
use Prim.Native.Nat.{ℕ, ◌+◌, ◌≤◌}
use native.Mathlib.Omega.{arith}
use mathlib.Core.Path.{sym, ◌∙◌}
use mathlib.Core.List.{List}
use Rattle.star.specs.Arcs.{Arcs}
use Rattle.star.specs.Star.{Star, Heads, Starts}
use Rattle.star.specs.Graphs.{heads, first_out}
use Rattle.star.specs.declared.graph.Graph.{Graph}

-- ---- of arcs between n nodes, with those out of each node
module _ {n : ℕ} {ts hs ws : List ℕ} (arcs : Arcs n ts hs ws) where
  pub arcs_heads : Heads (n + 1) hs ws
  arcs_heads = record {
    weights_long = arcs.weights_long ∙ sym arcs.heads_long;
    head_from = λ i h. arcs.head_from i (omega (arith, arcs.heads_long));
    head_in = λ i h. omega (arith, arcs.head_to i (omega (arith, arcs.heads_long)));
  }

  pub arcs_starts : {outs : List ℕ} → Star n ts hs outs → Starts (n + 1) hs outs
  arcs_starts s = record {
    long = omega (arith, s.long);
    within = λ v h. omega (arith, s.within v h, arcs.heads_long);
    ordered = λ v h. s.ordered v (omega arith);
  }

-- ---- of a graph
module _ (g : Graph) where
  pub graph_heads : Heads (g.nodes + 1) (heads g) g.weights.now
  graph_heads = arcs_heads g.holds.arcs

  pub graph_few : g.nodes ≤ 200
  graph_few = g.holds.arcs.few_nodes

  pub graph_starts : Starts (g.nodes + 1) (heads g) (first_out g)
  graph_starts = arcs_starts g.holds.arcs g.holds.star
