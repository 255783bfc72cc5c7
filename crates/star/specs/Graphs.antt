-- The parts of a graph in two slices, and the list of its arcs. Assumes nothing.
use Rattle.std.specs.Prelude.{ℕ, ◌+◌, List, length, get_or}
use Rattle.terms.specs.Network as terms
use Rattle.star.specs.Layout.{tails_of, heads_of, nexts_of, outs_of, ins_of, graph_of}
use Rattle.star.specs.declared.graph.Graph.{Graph}

-- the graph as a list of arcs with their weights
abbrev pub arcs_of : Graph → terms.Graph
arcs_of g = graph_of g.star.now g.weights.now

abbrev pub tails : Graph → List ℕ
tails g = tails_of (length g.weights.now) g.star.now

abbrev pub heads : Graph → List ℕ
heads g = heads_of (length g.weights.now) g.star.now

abbrev pub next_in : Graph → List ℕ
next_in g = nexts_of (length g.weights.now) g.star.now

abbrev pub first_out : Graph → List ℕ
first_out g = outs_of (g.nodes + 1) (length g.weights.now) g.star.now

abbrev pub first_in : Graph → List ℕ
first_in g = ins_of (g.nodes + 1) (length g.weights.now) g.star.now

-- the index at which the arcs out of v begin
abbrev pub out_start : Graph → ℕ → ℕ
out_start g v = get_or (first_out g) v 0
