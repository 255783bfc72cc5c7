-- Some of a network's arcs in a star, and the costs of columns beside it, made ready for the search of paths. Assumes nothing.
use Rattle.std.specs.Prelude.{ℕ, ◌+◌, ◌*◌, ◌≡◌, List, [], map, length}
use Rattle.terms.specs.Network.{Net, column, common}
use Rattle.star.specs.Chains.{Chains}
use Rattle.star.specs.Star.{Star}
use Rattle.star.specs.Layout.{tails_of, heads_of, nexts_of, outs_of, ins_of, graph_of, Holds}
use Rattle.labels.specs.Labels.{Least}
use Rattle.loading.specs.Selected.{in_a_row}

-- ---- room
-- the length of a star of m arcs between n nodes
abbrev pub star_size : ℕ → ℕ → ℕ
star_size n m = 3 * m + (n + 1) + 1 + (n + 1)

-- for a star, the weights of one column, and a label for each node
pub record Room (n m : ℕ) (s ws ls : List ℕ) : Type 0 where
  pub star_long : length s ≡ star_size n m
  pub weights_long : length ws ≡ m
  pub labels_long : length ls ≡ n + 1

-- ---- what is read there
-- the star holds the arcs of the network, and the arcs out of and into each node
pub record Shape (net : Net) (s : List ℕ) : Type 0 where
  pub long : length s ≡ star_size net.nodes (length net.arcs)
  pub tails_are : tails_of (length net.arcs) s ≡ map (λ a. a.0) net.arcs
  pub heads_are : heads_of (length net.arcs) s ≡ map (λ a. a.1) net.arcs
  pub star : Star net.nodes (tails_of (length net.arcs) s) (heads_of (length net.arcs) s) (outs_of (net.nodes + 1) (length net.arcs) s)
  pub chains : Chains (heads_of (length net.arcs) s) (ins_of (net.nodes + 1) (length net.arcs) s) (nexts_of (length net.arcs) s)
  pub ins_long : length (ins_of (net.nodes + 1) (length net.arcs) s) ≡ net.nodes + 1

-- the slices hold the arcs that are open in column u, their costs there, and the labels to t
pub record Loaded (net : Net) (u t : ℕ) (s ws ls : List ℕ) : Type 0 where
  pub holds : Holds net.nodes s ws
  pub graph_is : graph_of s ws ≡ column net u
  pub least : Least (graph_of s ws) [] t ls
  pub labels_long : length ls ≡ net.nodes + 1

-- the slices hold the arcs that are open in every column, m of them, and the costs of all columns for these, one column after the other
pub record Shared (net : Net) (m : ℕ) (s costs : List ℕ) : Type 0 where
  pub arcs_are : m ≡ length (common net).arcs
  pub shape : Shape (common net) s
  pub costs_are : costs ≡ in_a_row (common net).columns
