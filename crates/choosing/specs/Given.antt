-- What the search for the path of least greatest regret is given. Assumes nothing.
use Rattle.std.specs.Prelude.{ℕ, ◌+◌, ◌-◌, ◌≤◌, ◌≡◌, List, length, get_or}
use Rattle.terms.specs.Network.{column}
use Rattle.terms.specs.Paths.{Route, Path, cost}
use Rattle.terms.specs.Ranking.{ranked}
use Rattle.star.specs.Graphs.{arcs_of}
use Rattle.measuring.specs.Networks.{network_of, IsColumn}
use Rattle.measuring.specs.declared.columns.Columns.{Columns}
use Rattle.ranking.specs.declared.query.Query.{Query}

-- bests has a number for each column: no path from s to t costs less there
pub record Priced (c : Columns) (s t : ℕ) (bests : List ℕ) : Type 0 where
  pub bests_long : length bests ≡ c.count
  pub no_less : (u : ℕ) → 1 ≤ u → u ≤ c.count → (p : Route) → Path (column (network_of c) u) s t p → get_or bests (u - 1) 0 ≤ cost (column (network_of c) u) p

-- q ranks the paths in column r, of which there is one, and one more than are wanted
pub record Posed (c : Columns) (bests : List ℕ) (r wanted : ℕ) (q : Query) : Type 0 where
  pub in_column : IsColumn c r
  pub nodes_are : q.graph.nodes ≡ c.nodes
  pub arcs_are : arcs_of q.graph ≡ column (network_of c) r
  pub some_path : 1 ≤ length (ranked q.graph.nodes (arcs_of q.graph) q.start q.goal)
  pub some_wanted : 1 ≤ wanted
  pub slots_are : q.slots ≡ wanted + 1
  pub priced : Priced c q.start q.goal bests
