-- A graph of m arcs in two slices. `star` has its topology: the arcs' tails, heads and links to the next arc into the same head, m
-- places each; where the arcs out of each node begin; and the last arc into each node. `weights` has the m costs of one column.
-- Nodes have the places below k. Assumes nothing.
use Rattle.std.specs.Prelude.{ℕ, ◌+◌, ◌-◌, ◌*◌, ◌≡◌, List, length, take, drop}
use Rattle.terms.specs.Network.{Graph}
use Rattle.star.specs.Arcs.{graph, Arcs}
use Rattle.star.specs.Chains.{Chains}
use Rattle.star.specs.Star.{Star}

-- ---- the parts of a star
-- the elements from a to below e: what `&s[a..e]` lends
abbrev pub part : ℕ → ℕ → List ℕ → List ℕ
part a e s = take (e - a) (drop a s)

unfoldable pub tails_of : ℕ → List ℕ → List ℕ
tails_of m s = take m s

unfoldable pub heads_of : ℕ → List ℕ → List ℕ
heads_of m s = part m (2 * m) s

unfoldable pub nexts_of : ℕ → List ℕ → List ℕ
nexts_of m s = part (2 * m) (3 * m) s

unfoldable pub outs_of : ℕ → ℕ → List ℕ → List ℕ
outs_of k m s = part (3 * m) (3 * m + k + 1) s

unfoldable pub ins_of : ℕ → ℕ → List ℕ → List ℕ
ins_of k m s = part (3 * m + k + 1) (length s) s

-- ---- the graph
unfoldable pub graph_of : List ℕ → List ℕ → Graph
graph_of s ws = graph (tails_of (length ws) s) (heads_of (length ws) s) ws

-- the slices hold a graph of n nodes, with the arcs out of and into each node
pub record Holds (n : ℕ) (s ws : List ℕ) : Type 0 where
  pub long : length s ≡ 3 * length ws + (n + 1) + 1 + (n + 1)
  pub arcs : Arcs n (tails_of (length ws) s) (heads_of (length ws) s) ws
  pub star : Star n (tails_of (length ws) s) (heads_of (length ws) s) (outs_of (n + 1) (length ws) s)
  pub chains : Chains (heads_of (length ws) s) (ins_of (n + 1) (length ws) s) (nexts_of (length ws) s)
  pub ins_long : length (ins_of (n + 1) (length ws) s) ≡ n + 1
